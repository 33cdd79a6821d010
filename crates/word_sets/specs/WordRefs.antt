-- What sets of words that stand elsewhere are to contracts.
use Rattle.std.specs.Prelude.{ℕ, Bool, encode_utf8_all, List, map}
use Rattle.std.specs.declared.hash.FoldHasher.{FoldHasher}
use Rattle.std.specs.declared.hash.BuildHasherDefault.{BuildHasherDefault}
use Rattle.std.specs.List.{list_all}
use Rattle.std.specs.Str.{bytes_eq, chars}
use Rattle.indexmap.specs.IndexSet.{IndexSet}
use denote.Ref.{Bor}

-- a set of words that stand elsewhere
abbrev pub Words : Type 0
Words = IndexSet (Bor (List ℕ)) (BuildHasherDefault FoldHasher)

-- the characters of a word that stands elsewhere
abbrev pub characters_at : Bor (List ℕ) → List ℕ
characters_at word = chars word.now

-- the texts in a set of words that stand elsewhere
abbrev pub texts_at : Words → List (List ℕ)
texts_at words = map characters_at words.keys

-- a word that stands elsewhere is the bytes of its characters
abbrev pub is_encoded : Bor (List ℕ) → Bool
is_encoded word = bytes_eq word.now (encode_utf8_all (chars word.now))

-- so is each word in a set
abbrev pub are_encoded : Words → Bool
are_encoded words = list_all is_encoded words.keys
