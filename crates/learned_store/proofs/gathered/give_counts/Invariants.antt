use Rattle.std.proofs.Common.{length}
use Rattle.learned_store.proofs.Gathering.{IsCounted}
use Rattle.learned_store.proofs.gathered.give_counts.Given as goal

-- some counts are set, and the others are left
abbrev pub invariant-loop-book : goal.invariant-loop-book
invariant-loop-book l = IsCounted l.fn.counts l.counts l.initial.index.state l.index.state

abbrev pub decreases-loop-book : goal.decreases-loop-book
decreases-loop-book l = length l.counts.entries
