use Rattle.std.proofs.Common.{◌≡◌, drop, find, map}
use Rattle.dict_expr.specs.Books.{is_too_big}
use Rattle.dict_expr.proofs.printing.too_big_among.Given as goal

-- no line of the rows so far is too long
abbrev pub invariant-loop-row : goal.invariant-loop-row
invariant-loop-row l =
    find is_too_big (map (λ row. row.now) l.rows)
    ≡ find is_too_big (map (λ row. row.now) (drop l.row-index l.rows))
