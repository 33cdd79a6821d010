use Rattle.std.proofs.Common.{◌≡◌, map, take}
use Rattle.std.specs.List.{filter}
use Rattle.batch_store.specs.Levels.{has_rank}
use Rattle.batch_store.proofs.levels.with_rank.Given as goal

-- those that were kept are the rows so far that have a candidate of the rank
abbrev pub invariant-loop-row : goal.invariant-loop-row
invariant-loop-row l =
    map (λ row. row.now) l.kept.items
    ≡ filter (has_rank l.rank) (map (λ row. row.now) (take l.row-index l.rows))
