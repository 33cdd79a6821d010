use Rattle.std.proofs.Common.{◌≡◌, map, reverse, take}
use Rattle.std.specs.List.{filter}
use Rattle.skk_calls.specs.Completions.{completes}
use Rattle.learn_index.proofs.completing.last_completing.Given as goal

-- the rows so far that complete the prefix are found
abbrev pub invariant-loop-step : goal.invariant-loop-step
invariant-loop-step l =
    map (λ row. row.now) l.newest.items ≡ filter (completes l.prefix) (take l.step (reverse l.stamps))
