use Rattle.std.proofs.Common.{◌≡◌, ◌++◌, map, take}
use Rattle.std.specs.List.{flat_map}
use Rattle.learned_store.specs.declared.form.PayloadForm.TheVariants.{Put}
use Rattle.learned_store.specs.Compacting.{form_record}
use Rattle.learned_store.proofs.compacting.push_puts.Given as goal

-- the records of the rows so far were added
abbrev pub invariant-loop-row : goal.invariant-loop-row
invariant-loop-row l =
    l.records.items
    ≡ l.fn.records.items ++ flat_map form_record (map (Put l.book l.count) (take l.row-index l.rows))
