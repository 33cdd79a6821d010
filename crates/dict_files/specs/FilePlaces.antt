-- A dictionary file as it lies: its bytes, and the places of the entries of each part.
use Rattle.std.specs.Prelude.{◌≡◌, ◌+◌, ℕ, Bool, true, not, nat_le, if◌then◌else◌, Option, None, Some, List, [], ◌∷◌}
use Rattle.std.specs.Prelude.{All, length, map, slice_range, encode_utf8_all}
use Rattle.std.specs.List.{filter}
use Rattle.std.specs.Option.{option_or}
use Rattle.std.specs.Str.{IsUtf8, bytes_eq, chars}
use Rattle.skk_text.specs.Pairs.{all_pairs}
use Rattle.ordered_lists.specs.KeyOrders.{bytes_less}
use Rattle.skk_calls.specs.declared.part.Part.{Part}
use Rattle.skk_calls.specs.Rows.{Row}
use Rattle.skk_calls.specs.States.{row_in}
use Rattle.dict_format.specs.EntryRows.{listed_rows, row_of_line}
use Rattle.dict_format.specs.FileLines.{ListsRows, entries_of}
use Rattle.dict_files.specs.declared.part_places.MarkedParts.{MarkedParts}
use Rattle.dict_files.specs.declared.place.Place.{Place}
use Rattle.dict_files.specs.Files.{is_file}
use Rattle.dict_files.specs.Marks.{every_sixteenth}
use Rattle.dict_files.specs.PlacesOfParts.{marked_in}

-- so many bytes from one of them on, where they are there
abbrev pub piece_at : List ℕ → ℕ → ℕ → List ℕ
piece_at bytes start len = if nat_le (start + len) (length bytes) then slice_range bytes start (start + len) else []

-- what is read of the line of an entry
abbrev pub line_at : List ℕ → Place → List ℕ
line_at bytes place = piece_at bytes place.start place.line

-- its reading
abbrev pub reading_at : List ℕ → Place → List ℕ
reading_at bytes place = piece_at bytes place.start place.reading

-- the row that an entry of a part spells, if it spells one
abbrev pub row_at : Part → List ℕ → Place → Option Row
row_at part bytes place = row_of_line part (chars (line_at bytes place))

-- the first row that entries spell
abbrev pub first_row : Part → List ℕ → List Place → Option Row
first_row part bytes [] = None
first_row part bytes (place ∷ places) = option_or (row_at part bytes place) (first_row part bytes places)

-- an entry has this reading
abbrev pub has_reading : List ℕ → List ℕ → Place → Bool
has_reading bytes reading place = bytes_eq (reading_at bytes place) reading

-- its reading is less than this one
abbrev pub is_below : List ℕ → List ℕ → Place → Bool
is_below bytes reading place = bytes_less (reading_at bytes place) reading

-- it is greater
abbrev pub is_above : List ℕ → List ℕ → Place → Bool
is_above bytes reading place = bytes_less reading (reading_at bytes place)

-- a reading is passed on the way to another: it is less, or where equal ones are passed too not greater
abbrev pub is_passed : Bool → List ℕ → List ℕ → Bool
is_passed equal reading other = if equal then not (bytes_less reading other) else bytes_less other reading

-- the reading of an entry is not passed on the way to this one
abbrev pub is_behind : Bool → List ℕ → List ℕ → Place → Bool
is_behind equal bytes reading place = if equal then is_above bytes reading place else not (is_below bytes reading place)

-- the reading of an entry is not greater than that of another
abbrev pub rises : List ℕ → Place → Place → Bool
rises bytes place other = not (bytes_less (reading_at bytes other) (reading_at bytes place))

-- the readings of entries do not fall
abbrev pub rise : List ℕ → List Place → Bool
rise bytes places = all_pairs (rises bytes) places

-- the marks of entries: the readings of the first and of every sixteenth behind it
abbrev pub marks_of : List ℕ → List Place → List (List ℕ)
marks_of bytes places = map (reading_at bytes) (every_sixteenth places)

-- texts are these marks
abbrev pub AreMarks : List ℕ → List Place → List (List ℕ) → Type 0
AreMarks bytes places marks = map encode_utf8_all marks ≡ marks_of bytes places

-- the rows that the bytes of a file list
abbrev pub file_rows : List ℕ → List Row
file_rows bytes = listed_rows (entries_of bytes)

-- what is read of an entry is UTF-8
abbrev pub IsValid : List ℕ → Place → Type 0
IsValid bytes place = IsUtf8 (line_at bytes place)

-- its reading is UTF-8
abbrev pub IsReadable : List ℕ → Place → Type 0
IsReadable bytes place = IsUtf8 (reading_at bytes place)

-- both are so for an entry of a part, and the row that it spells has that part and its reading
pub record IsEntry (part : Part) (bytes : List ℕ) (place : Place) : Type 0 where
  pub valid : IsValid bytes place
  pub readable : IsReadable bytes place
  pub keyed : (row : Row) → row_at part bytes place ≡ Some row
      → (row.key.part ≡ part) × (reading_at bytes place ≡ encode_utf8_all row.key.reading)

-- places of entries of a part, in order by their readings: among those with a reading the first row that one of them
-- spells is the file's row of that key
pub record IsPart (part : Part) (bytes : List ℕ) (places : List Place) : Type 0 where
  pub entries : All (IsEntry part bytes) places
  pub rise : rise bytes places ≡ true
  pub rows : (reading : List ℕ) → first_row part bytes (filter (has_reading bytes (encode_utf8_all reading)) places)
      ≡ row_in (record { part = part; reading = reading }) (file_rows bytes)

-- the places of the entries of each part of a file, with their marks
pub record IsFile (bytes : List ℕ) (places : MarkedParts) : Type 0 where
  pub lists : ListsRows bytes (file_rows bytes)
  pub rows : is_file (file_rows bytes) ≡ true
  pub parts : (part : Part) → IsPart part bytes (marked_in places part).places.items
  pub marks : (part : Part) → AreMarks bytes (marked_in places part).places.items (marked_in places part).marks
