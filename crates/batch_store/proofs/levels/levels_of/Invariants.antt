use Rattle.std.proofs.Common.{◌≡◌, map}
use Rattle.dict_format.specs.PrintedFiles.{in_printing_order}
use Rattle.batch_store.specs.Levels.{levels_below}
use Rattle.batch_store.proofs.levels.levels_of.Given as goal

-- they are the levels of the ranks so far
abbrev pub invariant-loop-rank : goal.invariant-loop-rank
invariant-loop-rank l =
    map (λ level. map (λ row. row.now) level.items) l.levels.items ≡ levels_below (in_printing_order l.book) l.rank
