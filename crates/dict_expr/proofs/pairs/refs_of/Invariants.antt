use Rattle.std.proofs.Common.{◌≡◌, map, take}
use Rattle.dict_expr.proofs.pairs.refs_of.Given as goal

-- these are the rows so far
abbrev pub invariant-loop-row : goal.invariant-loop-row
invariant-loop-row l = map (λ row. row.now) l.refs.items ≡ take l.row-index l.rows
