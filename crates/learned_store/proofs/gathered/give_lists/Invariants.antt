use Rattle.std.proofs.Common.{length}
use Rattle.learned_store.proofs.Gathering.{IsListed}
use Rattle.learned_store.proofs.gathered.give_lists.Given as goal

-- some lists are given, and the others are left
abbrev pub invariant-loop-typist : goal.invariant-loop-typist
invariant-loop-typist l = IsListed l.fn.lists l.lists l.initial.index.state l.index.state

abbrev pub decreases-loop-typist : goal.decreases-loop-typist
decreases-loop-typist l = length l.lists.entries
