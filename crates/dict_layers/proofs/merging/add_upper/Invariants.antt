use Rattle.std.proofs.Common.{◌++◌, List, map, drop}
use Rattle.std.specs.Option.{option_copied}
use Rattle.skk_calls.specs.Rows.{Row}
use Rattle.dict_layers.specs.Merging.{Merging}
use Rattle.dict_layers.proofs.merging.add_upper.Given as goal

-- the rows so far were added, and what they give and hide was passed
abbrev pub invariant-loop-row : goal.invariant-loop-row
invariant-loop-row l =
    (all below : List Row)
    → Merging all (option_copied l.okuri) l.fn.cands l.fn.passed (map (λ row. row.now) l.layers ++ below)
    → Merging all (option_copied l.okuri) l.cands l.passed (map (λ row. row.now) (drop l.row-index l.layers) ++ below)
