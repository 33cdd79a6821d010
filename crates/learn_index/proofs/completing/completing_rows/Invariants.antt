use Rattle.std.proofs.Common.{◌≡◌, ◌++◌, drop, map}
use Rattle.std.specs.List.{filter}
use Rattle.skk_calls.specs.Completions.{completes}
use Rattle.learn_index.proofs.completing.completing_rows.Given as goal

-- the rows so far and those that complete the prefix among the others are all
abbrev pub invariant-loop-kept : goal.invariant-loop-kept
invariant-loop-kept l =
    map (λ row. row.now) l.completing.items ++ filter (completes l.prefix) (drop l.kept-index l.rows)
    ≡ filter (completes l.prefix) l.rows
