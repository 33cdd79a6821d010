-- What maps by strings are to contracts.
use Rattle.std.specs.Prelude.{ℕ, String, string_bytes, List, map}
use Rattle.std.specs.declared.alloc.Global.{Global}
use Rattle.std.specs.declared.hash.FoldHasher.{FoldHasher}
use Rattle.std.specs.declared.hash.BuildHasherDefault.{BuildHasherDefault}
use Rattle.std.specs.Str.{chars}
use Rattle.indexmap.specs.IndexMap.{IndexMap}
use Rattle.skk_calls.specs.Rows.{Cand}

-- the characters of a string
abbrev pub characters : String Global → List ℕ
characters string = chars (string_bytes string)

-- a string as a word, with its value
abbrev pub worded : {V : Type 0} → String Global × V → List ℕ × V
worded pair = (characters pair.0, pair.1)

-- a map by strings
abbrev pub Strings : Type 0 → Type 0
Strings V = IndexMap (String Global) V (BuildHasherDefault FoldHasher)

-- the words in a map by strings, with their values
abbrev pub words_in : {V : Type 0} → Strings V → List (List ℕ × V)
words_in strings = map worded strings.entries

-- a word with a note as a candidate
abbrev pub as_cand : List ℕ × List ℕ → Cand
as_cand pair = record { word = pair.0; note = pair.1 }
