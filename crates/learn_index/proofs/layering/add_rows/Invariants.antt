use Rattle.std.proofs.Common.{◌≡◌, ◌++◌, map, take}
use Rattle.learn_index.proofs.layering.add_rows.Given as goal

-- the rows so far are added
abbrev pub invariant-loop-row : goal.invariant-loop-row
invariant-loop-row l = map (λ row. row.now) l.rows ≡ map (λ row. row.now) l.fn.rows ++ take l.row-index l.more
