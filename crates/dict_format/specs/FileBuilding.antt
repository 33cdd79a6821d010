-- What is kept while a file is read.
use Rattle.std.specs.Prelude.{◌≡◌, ℕ, Bool, true, if◌then◌else◌, List, [], ◌∷◌, ◌++◌}
use Rattle.skk_calls.specs.declared.part.Part.{Part}
use Rattle.skk_calls.specs.declared.part.Part.TheVariants.{Nasi, Ari}
use Rattle.skk_calls.specs.Rows.{Row, RowKey, has_text, keys_differ}
use Rattle.dict_format.specs.declared.file.Listed.{Listed}
use Rattle.dict_format.specs.declared.readings.Readings.{Readings}
use Rattle.dict_format.specs.declared.reason.LineReason.{LineReason}
use Rattle.dict_format.specs.declared.reason.LineReason.TheVariants.{Twice}
use Rattle.dict_format.specs.FileLines.{has_key}

-- the readings of a part that are known
abbrev pub known_in : Readings → Part → List (List ℕ)
known_in readings Nasi = readings.nasi
known_in readings Ari = readings.ari

-- a key is known: its reading is one of those of its part
abbrev pub knows : Readings → RowKey → Bool
knows readings key = has_text (known_in readings key.part) key.reading

-- the keys of rows differ, and they are those that are known
pub record KnowsKeys (rows : List Row) (readings : Readings) : Type 0 where
  pub differ : keys_differ rows ≡ true
  pub known : (key : RowKey) → knows readings key ≡ has_key rows key

-- what is listed with this line as a bad one more
abbrev pub refused_with : Listed → ℕ → LineReason → Listed
refused_with before number reason =
    record { book = before.book; bad = before.bad ++ record { line = number; reason = reason } ∷ [] }

-- what is listed with the row of this line, or with the line as a bad one where a row has its key
abbrev pub listed_with : Listed → ℕ → Row → Listed
listed_with before number row =
    if has_key before.book row.key then refused_with before number Twice
    else record { book = before.book ++ row ∷ []; bad = before.bad }
