use Rattle.std.proofs.Common.{◌≡◌, ◌++◌, length}
use Rattle.numeric_entries.specs.Numerals.{with_commas}
use Rattle.numeric_entries.proofs.digits.push_with_commas.Given as goal

abbrev pub invariant-loop-rest : goal.invariant-loop-rest
invariant-loop-rest l = l.text ++ with_commas l.rest ≡ l.fn.text ++ with_commas l.digits

abbrev pub decreases-loop-rest : goal.decreases-loop-rest
decreases-loop-rest l = length l.rest
