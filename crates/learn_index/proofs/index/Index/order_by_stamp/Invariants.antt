use Rattle.std.proofs.Common.{◌≡◌}
use Rattle.learn_index.proofs.index.Index.order_by_stamp.Given as goal

-- the state is as it was
abbrev pub invariant-loop-place : goal.invariant-loop-place
invariant-loop-place l = l.self.state ≡ l.initial.self.state
