use Rattle.std.proofs.Common.{◌≡◌}
use Rattle.std.specs.Option.{IfSome}
use Rattle.dictionary_tests.proofs.rows.row_after.Given as goal

-- the row so far, if there is one, is of the key
abbrev pub invariant-loop-change : goal.invariant-loop-change
invariant-loop-change g l = IfSome l.row (λ row. row.key ≡ l.key)
