use Rattle.std.proofs.Common.{◌≡◌, map, drop}
use Rattle.dict_expr.specs.Walking.{rows_from}
use Rattle.dict_expr.proofs.pairs.rows_from.Given as goal

-- the keys of the rows so far are less
abbrev pub invariant-loop-place : goal.invariant-loop-place
invariant-loop-place l =
    rows_from l.key (map (λ row. row.now) l.rows) ≡ rows_from l.key (map (λ row. row.now) (drop l.place l.rows))
