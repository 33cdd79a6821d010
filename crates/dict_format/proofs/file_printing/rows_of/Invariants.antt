use Rattle.std.proofs.Common.{◌≡◌, true, map, take}
use Rattle.std.specs.List.{filter, list_all}
use Rattle.skk_calls.specs.Rows.{is_row}
use Rattle.dict_format.specs.PrintedFiles.{is_of}
use Rattle.dict_format.proofs.file_printing.rows_of.Given as goal

-- those that were kept are the rows of the part so far
abbrev pub invariant-loop-row : goal.invariant-loop-row
invariant-loop-row l =
    (map (λ row. row.now) l.kept.items ≡ filter (is_of l.part) (take l.row-index l.rows))
    × (list_all is_row (take l.row-index l.rows) ≡ true)
