use Rattle.std.proofs.Common.{◌≡◌, ◌++◌, map, take}
use Rattle.std.specs.List.{flat_map}
use Rattle.skk_calls.specs.Canonical.{canonical}
use Rattle.exact_readers.specs.Lines.{with_line_end}
use Rattle.dict_format.proofs.file_printing.push_lines.Given as goal

-- what was added are the lines of the rows so far
abbrev pub invariant-loop-row : goal.invariant-loop-row
invariant-loop-row l =
    l.file ≡ l.fn.file ++ flat_map with_line_end (map canonical (map (λ row. row.now) (take l.row-index l.rows)))
