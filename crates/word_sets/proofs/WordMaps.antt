-- Maps by strings, as the words in them.
use Rattle.std.proofs.Common.{◌≡◌, ℕ, true, false, is_some, unwrap_or, String}
use Rattle.std.proofs.Common.{string_bytes, encode_utf8_all, List, [], ◌∷◌, map, refl, sym, ap, ◌∙◌, arith}
use Rattle.std.specs.declared.alloc.Global.{Global}
use Rattle.std.specs.List.{AllByRecursion, IsDistinct}
use Rattle.std.specs.Map.{lookup, keys_of, set_value}
use Rattle.std.specs.Str.{bytes_eq, chars, IsUtf8}
use Rattle.std.specs.String.{string_eq}
use Rattle.std.proofs.lemmas.Map.Keys.{IsDistinct-head, IsDistinct-tail}
use Rattle.std.proofs.lemmas.Str.{encodes-chars, IsUtf8-string_bytes}
use Rattle.indexmap.specs.IndexMap.{insert_entry}
use Rattle.skk_calls.specs.DifferLaws.{differ_from}
use Rattle.skk_calls.specs.KeyLaws.{same_encoded}
use Rattle.skk_calls.specs.Rows.{same_text, has_text, texts_differ}
use Rattle.word_sets.specs.Firsts.{with_new}
use Rattle.word_sets.specs.Strings.{characters, worded}

-- bytes are those of a string where the characters are the same
same_bytes : (bytes : List ℕ) → IsUtf8 bytes → (string : String Global)
    → bytes_eq bytes (string_bytes string) ≡ same_text (chars bytes) (characters string)
same_bytes bytes utf8 string =
    ap (λ others. bytes_eq others (string_bytes string)) (sym (encodes-chars bytes utf8))
    ∙ ap (bytes_eq (encode_utf8_all (chars bytes)))
    (sym (encodes-chars (string_bytes string) (IsUtf8-string_bytes string)))
    ∙ same_encoded (chars bytes) (characters string)

same_string : (one other : String Global) → string_eq one other ≡ same_text (characters one) (characters other)
same_string one other = same_bytes (string_bytes one) (IsUtf8-string_bytes one) other

module _ {V : Type 0} where
  -- a map has of bytes what it has of their characters
  pub found : (bytes : List ℕ) → IsUtf8 bytes → (entries : List (String Global × V))
      → lookup (λ key. bytes_eq bytes (string_bytes key)) entries
      ≡ lookup (same_text (chars bytes)) (map worded entries)
  found bytes utf8 [] = refl
  found bytes utf8 (entry ∷ entries) = rw (same_bytes bytes utf8 entry.0, found bytes utf8 entries) refl

  -- it has a word where that is one of its words
  pub has_word : (text : List ℕ) (words : List (List ℕ × V))
      → is_some (lookup (same_text text) words) ≡ has_text (map (λ pair. pair.0) words) text
  has_word text [] = refl
  has_word text (word ∷ words) = grind (arith, has_word text words)

  -- and sets it there
  pub written : (bytes : List ℕ) → IsUtf8 bytes → (entries : List (String Global × V)) (value : V)
      → map worded (set_value (λ key. bytes_eq bytes (string_bytes key)) entries value)
      ≡ set_value (same_text (chars bytes)) (map worded entries) value
  written bytes utf8 [] value = refl
  written bytes utf8 (entry ∷ entries) value =
      grind (arith, same_bytes bytes utf8 entry.0, written bytes utf8 entries value)

  -- it has a string where the characters are one of its words
  pub has_string : (word : String Global) (entries : List (String Global × V))
      → is_some (lookup (string_eq word) entries)
      ≡ has_text (map (λ pair. pair.0) (map worded entries)) (characters word)
  has_string word [] = refl
  has_string word (entry ∷ entries) = grind (arith, same_string word entry.0, has_string word entries)

  -- a string that it has keeps its value, and another one goes to the end
  pub inserted : (word : String Global) (value : V) (entries : List (String Global × V))
      → map worded (insert_entry string_eq entries word (unwrap_or (lookup (string_eq word) entries) value))
      ≡ with_new (λ pair. pair.0) (map worded entries) (characters word, value)
  inserted word value [] = refl
  inserted word value (entry ∷ entries) = grind (arith, same_string word entry.0, inserted word value entries)

  -- its words differ
  pub words_differ : (entries : List (String Global × V)) → IsDistinct string_eq (keys_of entries)
      → texts_differ (map (λ pair. pair.0) (map worded entries)) ≡ true
  words_differ [] distinct = refl
  words_differ (entry ∷ entries) distinct =
      differ_from (characters entry.0) (map (λ pair. pair.0) (map worded entries))
      (none entries (IsDistinct-head string_eq entry.0 (keys_of entries) distinct))
      (words_differ entries (IsDistinct-tail string_eq entry.0 (keys_of entries) distinct))
    where
      none : (others : List (String Global × V))
          → AllByRecursion (λ other. string_eq entry.0 other ≡ false) (keys_of others)
          → has_text (map (λ pair. pair.0) (map worded others)) (characters entry.0) ≡ false
      none [] apart = refl
      none (other ∷ others) apart = grind (arith, same_string entry.0 other.0, none others apart.1)
