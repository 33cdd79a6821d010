use Rattle.std.proofs.Common.{◌≡◌, ◌++◌, map}
use Rattle.skk_calls.specs.declared.part.Part.TheVariants.{Ari}
use Rattle.dict_format.specs.PrintedFiles.{part_in_order}
use Rattle.batch_store.proofs.levels.rows_as_printed.Given as goal

-- they are those with okurigana, and those without it so far
abbrev pub invariant-loop-row : goal.invariant-loop-row
invariant-loop-row l =
    map (λ row. row.now) l.rows.items
    ≡ part_in_order Ari l.book ++ map (λ row. row.now) l.yielded
