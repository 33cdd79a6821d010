-- The rows of a file in order, and the readings that a walk goes over.
use Rattle.std.specs.Prelude.{ℕ, Bool, ◌&&◌, if◌then◌else◌, Option, None, Some, List, [], map, not}
use Rattle.std.specs.List.{filter}
use Rattle.ordered_lists.specs.Orders.{sort_by, IsIndex}
use Rattle.skk_calls.specs.declared.part.Part.TheVariants.{Nasi}
use Rattle.skk_text.specs.Lists.{is_empty}
use Rattle.skk_calls.specs.Completions.{reading_of}
use Rattle.skk_calls.specs.Found.{first_of_each}
use Rattle.skk_calls.specs.OrderLaws.{row_keys}
use Rattle.skk_calls.specs.Orders.{text_less}
use Rattle.skk_calls.specs.Rows.{Row, same_part}

-- a walk comes by a row: it has no okurigana, and a candidate
abbrev pub is_walked : Row → Bool
is_walked row = same_part row.key.part Nasi && not (is_empty row.cands)

-- the readings of a file that a walk goes over, each once, ascending by their bytes
abbrev pub walked_readings : List Row → List (List ℕ)
walked_readings rows =
    sort_by text_less (first_of_each (λ reading. reading) [] (map reading_of (filter is_walked rows)))

-- places of a file's rows: an index of all rows, and one of those that a walk comes by
pub record IsFileIndex (rows : List Row) (by_key walked : List ℕ) : Type 0 where
  pub keys : IsIndex (λ (row : Row). row.key) row_keys rows by_key rows
  pub readings : IsIndex (λ (row : Row). row.key) row_keys rows walked (filter is_walked rows)

-- the reading of a row, where there is one that has a candidate
abbrev pub walked_reading : Option Row → Option (List ℕ)
walked_reading None = None
walked_reading (Some row) = if is_empty row.cands then None else Some row.key.reading
