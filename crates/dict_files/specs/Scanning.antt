-- How far the entries of a file are gone over.
use Rattle.std.specs.Prelude.{◌≡◌, ◌++◌, ℕ, List, All}
use Rattle.std.specs.List.{filter, filter_map}
use Rattle.skk_calls.specs.declared.part.Part.{Part}
use Rattle.skk_calls.specs.Rows.{Row, same_part}
use Rattle.dict_format.specs.EntryRows.{spelled_rows}
use Rattle.dict_format.specs.FileLines.{FileEntry, entries_of}
use Rattle.dict_files.specs.declared.part_places.PartPlaces.{PartPlaces}
use Rattle.dict_files.specs.declared.place.Place.{Place}
use Rattle.dict_files.specs.FilePlaces.{IsEntry, row_at}
use Rattle.dict_files.specs.PlacesOfParts.{places_in}

-- the rows of a part that entries spell
abbrev pub rows_in : Part → List FileEntry → List Row
rows_in part entries = filter (λ row. same_part row.key.part part) (spelled_rows entries)

-- places of entries of a part, as they came: the rows that they spell, and behind these those of the part which entries
-- that are left spell, are those of the part in the file
pub record ArePart (part : Part) (bytes : List ℕ) (places : List Place) (left : List FileEntry) : Type 0 where
  pub entries : All (IsEntry part bytes) places
  pub rows : filter_map (row_at part bytes) places ++ rows_in part left ≡ rows_in part (entries_of bytes)

-- the places of the entries of each part of a file, but for the entries that are left
abbrev pub AreOfFile : List ℕ → PartPlaces → List FileEntry → Type 0
AreOfFile bytes places left = (part : Part) → ArePart part bytes (places_in places part) left
