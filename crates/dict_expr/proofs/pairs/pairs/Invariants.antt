use Rattle.std.proofs.Common.{◌≡◌, drop, map, take}
use Rattle.dict_expr.specs.Pairs.{paired, seen}
use Rattle.dict_expr.proofs.Walks.{Stands}
use Rattle.dict_expr.proofs.pairs.pairs.Given as goal

-- the rows so far have those of their keys, and what is left of the others has those of the keys to come
abbrev pub invariant-loop-row : goal.invariant-loop-row
invariant-loop-row l =
    let others = map (λ row. row.now) l.others in
    (seen l.pairs.items ≡ map (paired others) (map (λ row. row.now) (take l.row-index l.rows)))
    × Stands others (map (λ row. row.now) l.rest) (map (λ row. row.now) (drop l.row-index l.rows))
