-- The dictionary of the words that are drawn.
use Rattle.std.specs.Prelude.{ℕ, List, [], ◌∷◌, ◌++◌, codes, map}
use Rattle.std.specs.List.{flat_map}
use Rattle.skk_text.specs.Kana.{in_katakana}
use Rattle.skk_calls.specs.declared.part.Part.TheVariants.{Nasi}
use Rattle.skk_calls.specs.Rows.{Cand, Row}

-- the kana of the syllables
abbrev pub kana : List ℕ
kana = codes "かきくけこさしすせそたちつてとな"

-- the reading of two syllables
abbrev pub reading : ℕ → ℕ → List ℕ
reading first second = first ∷ second ∷ []

-- a candidate of a reading: its katakana, and a digit
abbrev pub candidate : List ℕ → ℕ → Cand
candidate reading digit = record { word = in_katakana reading ++ digit ∷ []; note = [] }

-- the three candidates of a reading
abbrev pub cands_of : List ℕ → List Cand
cands_of reading = map (candidate reading) (codes "123")

-- the row of two syllables
abbrev pub row_of : ℕ → ℕ → Row
row_of first second = record {
  key = record { part = Nasi; reading = reading first second };
  cands = cands_of (reading first second);
  blocks = [];
  hides = [];
  stamp = 0;
}

-- the rows whose first syllable is given
abbrev pub rows_from : ℕ → List Row
rows_from first = map (row_of first) kana

-- the rows of all words
abbrev pub dictionary_rows : List Row
dictionary_rows = flat_map rows_from kana
