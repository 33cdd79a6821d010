use Rattle.std.proofs.Common.{◌≡◌, map, take}
use Rattle.skk_calls.specs.Completions.{reading_of}
use Rattle.learn_index.proofs.completing.first_readings.Given as goal

-- the readings so far are copied
abbrev pub invariant-loop-row : goal.invariant-loop-row
invariant-loop-row l = l.readings ≡ map reading_of (map (λ row. row.now) (take l.row-index l.row-items))
