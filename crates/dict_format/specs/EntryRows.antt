-- The rows that the entries of a file list.
use Rattle.std.specs.Prelude.{◌≡◌, if◌then◌else◌, Option, Some, List, [], ◌∷◌, ◌++◌, ℕ}
use Rattle.std.specs.List.{filter_map, fold}
use Rattle.std.specs.Result.{result_ok}
use Rattle.skk_calls.specs.declared.part.Part.{Part}
use Rattle.skk_calls.specs.Rows.{Row}
use Rattle.dict_format.specs.FileLines.{FileEntry, has_key}
use Rattle.exact_readers.specs.Cuts.{cut}
use Rattle.dict_format.specs.Reading.{is_space, line_reading}

-- the row that a line of a part spells, if it spells one
abbrev pub row_of_line : Part → List ℕ → Option Row
row_of_line part line = result_ok (line_reading part line)

-- a row has the part of a line, and the reading before its first space
pub record HasKey (part : Part) (line : List ℕ) (row : Row) : Type 0 where
  pub part_is : row.key.part ≡ part
  pub rest : List ℕ
  pub cut_is : cut is_space line ≡ Some (row.key.reading, rest)

-- the rows that entries spell
abbrev pub spelled_rows : List FileEntry → List Row
spelled_rows entries = filter_map (λ entry. row_of_line entry.part entry.text) entries

-- rows with one more, where none of them has its key
abbrev pub with_row : List Row → Row → List Row
with_row rows row = if has_key rows row.key then rows else rows ++ row ∷ []

-- the rows that entries list: those that they spell, the first of each key
abbrev pub listed_rows : List FileEntry → List Row
listed_rows entries = fold with_row [] (spelled_rows entries)
