use Rattle.std.proofs.Common.{length}
use Rattle.exact_readers.specs.LoopLaws.{HasTaken}
use Rattle.exact_readers.proofs.reading.read_many.Given as goal

-- the values so far and those of what is left are those of all
abbrev pub invariant-loop-values : goal.invariant-loop-values
invariant-loop-values g l =
    HasTaken (g.R.Reader.format l.reader) (g.R.Reader.tokens l.front) (g.R.Reader.items l.values)
    (g.R.Reader.tokens l.rest)

abbrev pub decreases-loop-values : goal.decreases-loop-values
decreases-loop-values g l = length (g.R.Reader.tokens l.rest)
