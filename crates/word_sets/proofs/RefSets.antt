-- Sets of words that stand elsewhere, as the texts in them.
use Rattle.std.proofs.Common.{◌≡◌, ℕ, true, position, Bor, encode_utf8_all}
use Rattle.std.proofs.Common.{List, [], ◌∷◌, map, refl, ap, ◌∙◌, arith}
use Rattle.std.specs.List.{list_all, list_any, position_or_len}
use Rattle.std.specs.Str.{bytes_eq, chars}
use Rattle.std.proofs.lemmas.List.{length-map, map-append}
use Rattle.std.proofs.lemmas.List.Folds.{list_all-append}
use Rattle.indexmap.specs.IndexSet.{insert_key}
use Rattle.skk_calls.specs.KeyLaws.{same_encoded, same_equal, same_itself}
use Rattle.skk_calls.specs.Rows.{same_text, has_text}
use Rattle.word_sets.specs.FirstLaws.{texts_stay}
use Rattle.word_sets.specs.Firsts.{with_new}
use Rattle.word_sets.specs.WordRefs.{characters_at, is_encoded}

-- bytes of a text are those of a word where the characters are the same
pub same_at : (text : List ℕ) (key : Bor (List ℕ)) → is_encoded key ≡ true
    → bytes_eq (encode_utf8_all text) key.now ≡ same_text text (characters_at key)
same_at text key encoded =
    ap (bytes_eq (encode_utf8_all text)) (same_equal key.now (encode_utf8_all (chars key.now)) encoded)
    ∙ same_encoded text (chars key.now)

-- the bytes of a text stand among words where the text does
pub has_at : (text : List ℕ) (keys : List (Bor (List ℕ))) → list_all is_encoded keys ≡ true
    → list_any (λ key. bytes_eq (encode_utf8_all text) key.now) keys ≡ has_text (map characters_at keys) text
has_at text [] encoded = refl
has_at text (key ∷ keys) encoded = grind (arith, same_at text key, has_at text keys)

-- at the same place
pub place_at : (text : List ℕ) (keys : List (Bor (List ℕ))) → list_all is_encoded keys ≡ true
    → position_or_len (λ key. bytes_eq (encode_utf8_all text) key.now) keys
    ≡ position_or_len (same_text text) (map characters_at keys)
place_at text [] encoded = refl
place_at text (key ∷ keys) encoded = grind (arith, same_at text key, place_at text keys)

-- where it is there
pub found_at : (text : List ℕ) (keys : List (Bor (List ℕ))) → list_all is_encoded keys ≡ true
    → position (λ key. bytes_eq (encode_utf8_all text) key.now) keys
    ≡ position (same_text text) (map characters_at keys)
found_at text keys encoded = rw (place_at text keys encoded, length-map keys characters_at) refl

-- a set with one more word
pub inserted : (keys : List (Bor (List ℕ))) (word : Bor (List ℕ)) (text : List ℕ) → list_all is_encoded keys ≡ true
    → word.now ≡ encode_utf8_all text → characters_at word ≡ text
    → map characters_at (insert_key (λ a b. bytes_eq a.now b.now) keys word)
    ≡ with_new (λ t. t) (map characters_at keys) text
inserted keys word text encoded bytes characters =
    grind (arith, has_at text keys, texts_stay (map characters_at keys), map-append characters_at keys (word ∷ []))

-- each of its words is the bytes of its characters
pub inserted_encoded : (keys : List (Bor (List ℕ))) (word : Bor (List ℕ)) (text : List ℕ)
    → list_all is_encoded keys ≡ true → word.now ≡ encode_utf8_all text → characters_at word ≡ text
    → list_all is_encoded (insert_key (λ a b. bytes_eq a.now b.now) keys word) ≡ true
inserted_encoded keys word text encoded bytes characters =
    grind (arith, same_itself word.now, list_all-append is_encoded keys (word ∷ []))
