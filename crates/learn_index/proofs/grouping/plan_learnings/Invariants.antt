use Rattle.std.proofs.Common.{take}
use Rattle.learn_index.proofs.Grouped.{ArePlannedSoFar}
use Rattle.learn_index.proofs.grouping.plan_learnings.Given as goal

-- the calls so far are planned, and leave the book this count
abbrev pub invariant-loop-call : goal.invariant-loop-call
invariant-loop-call l = ArePlannedSoFar l.index.state l.book (take l.call-index l.calls) l.plans l.count
