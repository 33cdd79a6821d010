use Rattle.std.proofs.Common.{◌≡◌, length, min, take}
use Rattle.std.specs.List.{flat_map}
use Rattle.skk_text.specs.Counts.{last_count}
use Rattle.batch_store.proofs.learnings.learning_count.Given as goal

-- it is the number of the rows of the levels so far
abbrev pub invariant-loop-level : goal.invariant-loop-level
invariant-loop-level l =
    l.count ≡ min (length (flat_map (λ level. level.items) (take l.level-index l.levels))) last_count
