-- Which keys, candidates, blocks and rows are valid, and in which order texts, keys and rows stand.
use Rattle.std.proofs.Common.{◌≡◌, ℕ, ◌+◌, true, false, nat_le, nat_lt, List, [], ◌∷◌, ◌++◌, codes, refl, replicate}
use Rattle.std.proofs.Common.{length, arith}
use Rattle.std.proofs.lemmas.Bool.{and_from, and_right, le-leb}
use Rattle.std.specs.List.{list_all}
use Rattle.skk_text.specs.Text.{byte_len}
use Rattle.skk_calls.specs.Orders.{key_less, text_less, is_newer, sort_by}
use Rattle.skk_calls.specs.Rows.{Row, same_key, texts_differ, is_row_key, is_okuri, is_word, is_cand, is_block, is_row}
use Rattle.skk_calls.specs.Rows.{keys_differ, IsBadNote}
use Rattle.skk_calls.proofs.Samples.{Gives, Gives2, plain, noted, nasi, ari, block, row, a, b, c, dictionary, kanji_key}
use Rattle.skk_calls.proofs.Samples.{ook_key}

-- Texts

texts_differing : Gives texts_differ (
    ([], true) ∷ (a ∷ [], true) ∷ (a ∷ b ∷ c ∷ [], true) ∷ (a ∷ a ∷ [], false) ∷ (a ∷ b ∷ a ∷ [], false)
    ∷ (a ∷ b ∷ b ∷ [], false)
    ∷ [])
texts_differing = refl

-- Keys

-- the keys of the dictionary are keys
keys_of_dictionary : list_all (λ (r : Row). is_row_key r.key) dictionary ≡ true
unfolding lib.Utf8.encode
keys_of_dictionary = refl

-- a reading is not empty, begins with no semicolon, and holds no space, no DEL and nothing below the space
readings : Gives (λ text. is_row_key (nasi text)) (
    ([], false) ∷ (a, true) ∷ (codes ";", false) ∷ (codes ";a", false) ∷ (codes "a;", true) ∷ (codes ":a", true)
    ∷ (codes "<a", true)
    ∷ (codes "a b", false) ∷ (codes " ", false) ∷ (codes "a!", true) ∷ (31 ∷ [], false) ∷ (9 ∷ [], false)
    ∷ (0x7E ∷ [], true) ∷ (0x7F ∷ [], false) ∷ (0x61 ∷ 0x7F ∷ [], false) ∷ (0x80 ∷ [], true)
    ∷ [])
unfolding lib.Utf8.encode
readings = refl

-- a reading with okurigana ends in a letter from `a` to `z`, behind something else
readings_with_okurigana : Gives (λ text. is_row_key (ari text)) (
    ([], false) ∷ (codes "k", false) ∷ (codes "おお", false) ∷ (codes "おおk", true) ∷ (codes "ak", true)
    ∷ (codes "a`", false)
    ∷ (codes "aa", true) ∷ (codes "az", true) ∷ (codes "a{", false) ∷ (codes "aK", false) ∷ (codes ";k", false)
    ∷ (codes "k1", false) ∷ [])
unfolding lib.Utf8.encode
readings_with_okurigana = refl

-- a reading has at most 254 bytes, and one with okurigana at most 255
lengths_of_readings : Gives is_row_key (
    (nasi (replicate 254 0x61), true) ∷ (nasi (replicate 255 0x61), false)
    ∷ (ari (replicate 255 0x61), true) ∷ (ari (replicate 256 0x61), false)
    ∷ (ari (replicate 84 0x3042 ++ codes "aaz"), true) ∷ (ari (replicate 84 0x3042 ++ codes "aaaz"), false)
    ∷ [])
unfolding lib.Utf8.encode
lengths_of_readings = refl

-- keys are the same in part and reading
keys_compared : Gives2 same_key (
    (nasi a, nasi a, true) ∷ (ari a, ari a, true) ∷ (nasi a, nasi b, false) ∷ (ari a, ari b, false)
    ∷ (nasi a, ari a, false) ∷ (ari a, nasi a, false)
    ∷ [])
keys_compared = refl

-- Okurigana

-- an okurigana is hiragana from ぁ to ゖ, ゝ, ゞ and ー
okurigana : Gives is_okuri (
    ([], false) ∷ (codes "く", true) ∷ (codes "った", true) ∷ (codes "ー", true) ∷ (codes "ぁ", true) ∷ (codes "ゖ", true)
    ∷ (codes "ゝ", true) ∷ (codes "ゞ", true) ∷ (codes "ク", false) ∷ (codes "k", false) ∷ (codes "くa", false)
    ∷ (codes "aく", false) ∷ (0x3040 ∷ [], false) ∷ (0x3097 ∷ [], false) ∷ (0x30FB ∷ [], false) ∷ (0x30FD ∷ [], false)
    ∷ (replicate 20 0x304F, true) ∷ (replicate 21 0x304F, false)
    ∷ [])
unfolding lib.Utf8.encode
okurigana = refl

-- Words and candidates

-- no word is empty
words : Gives is_word (([], false) ∷ (a, true) ∷ (codes "/;\"", true) ∷ [])
unfolding lib.Utf8.encode
words = refl

-- a text with a first character has one character at least
one_or_more : (rest : List ℕ) → nat_le 1 (length (0x61 ∷ rest)) ≡ true
one_or_more rest = le-leb 1 (length (0x61 ∷ rest)) (omega arith)

-- a word has at most 4,095 bytes
longest_word : (rest : List ℕ) → byte_len (0x61 ∷ rest) ≡ 4095 → is_word (0x61 ∷ rest) ≡ true
longest_word rest e =
    and_from (nat_le 1 (length (0x61 ∷ rest))) (nat_le (byte_len (0x61 ∷ rest)) 4095) (one_or_more rest) (rw e)

too_long_word : (rest : List ℕ) → byte_len (0x61 ∷ rest) ≡ 4096 → is_word (0x61 ∷ rest) ≡ false
too_long_word rest e = and_right (nat_le 1 (length (0x61 ∷ rest))) (nat_le (byte_len (0x61 ∷ rest)) 4095) (rw e)

-- a candidate has a word, and in its note no `/`, CR or LF
candidates : Gives is_cand (
    (plain [], false) ∷ (noted [] a, false) ∷ (plain a, true) ∷ (noted a b, true) ∷ (plain (codes "a/b"), true)
    ∷ (noted a (codes "/"), false) ∷ (noted a (codes "b/"), false) ∷ (noted a (13 ∷ []), false)
    ∷ (noted a (10 ∷ []), false) ∷ (noted a (codes ".0;\""), true) ∷ (noted a (9 ∷ 11 ∷ 12 ∷ 14 ∷ []), true)
    ∷ [])
unfolding lib.Utf8.encode
candidates = refl

-- the first bad character of a note, and the bytes before it
bad_note : IsBadNote (codes "宴/\n") 3
unfolding lib.Utf8.encode
bad_note = (codes "宴", 0x2F, 10 ∷ [], refl, refl, refl, refl)

-- word and note have at most 4,095 bytes together
longest_cand : (rest : List ℕ) → byte_len (0x61 ∷ rest) ≡ 4094 → is_cand (noted (0x61 ∷ rest) b) ≡ true
unfolding lib.Utf8.encode
longest_cand rest e =
    and_from (nat_le 1 (length (0x61 ∷ rest))) (nat_le (byte_len (0x61 ∷ rest) + 1) 4095) (one_or_more rest) (rw e)

too_long_cand : (rest : List ℕ) → byte_len (0x61 ∷ rest) ≡ 4095 → is_cand (noted (0x61 ∷ rest) b) ≡ false
unfolding lib.Utf8.encode
too_long_cand rest e = and_right (nat_le 1 (length (0x61 ∷ rest))) (nat_le (byte_len (0x61 ∷ rest) + 1) 4095) (rw e)

-- Blocks and rows

-- a block has a valid okurigana, and words that differ, at least one
blocks_made : Gives is_block (
    (block (codes "く") (a ∷ []), true) ∷ (block (codes "く") (a ∷ b ∷ []), true) ∷ (block (codes "く") [], false)
    ∷ (block (codes "く") ([] ∷ []), false) ∷ (block (codes "く") (a ∷ [] ∷ []), false)
    ∷ (block (codes "く") (a ∷ a ∷ []), false) ∷ (block [] (a ∷ []), false) ∷ (block (codes "k") (a ∷ []), false)
    ∷ [])
unfolding lib.Utf8.encode
blocks_made = refl

-- a row has a valid key, valid candidates of different words, blocks only with okurigana, of different okurigana, and
-- different hidden words
rows_made : Gives is_row (
    (row (nasi a) [] [] [] 0, true) ∷ (row (nasi []) [] [] [] 0, false)
    ∷ (row (nasi a) (plain a ∷ plain b ∷ []) [] (a ∷ b ∷ []) 1, true)
    ∷ (row (nasi a) (plain [] ∷ []) [] [] 1, false) ∷ (row (nasi a) (plain a ∷ noted a b ∷ []) [] [] 1, false)
    ∷ (row (nasi a) (plain a ∷ []) (block (codes "く") (a ∷ []) ∷ []) [] 1, false)
    ∷ (row ook_key [] (block (codes "く") (a ∷ []) ∷ block (codes "き") (a ∷ []) ∷ []) [] 1, true)
    ∷ (row ook_key [] (block (codes "く") (a ∷ []) ∷ block (codes "く") (b ∷ []) ∷ []) [] 1, false)
    ∷ (row ook_key [] (block (codes "k") (a ∷ []) ∷ []) [] 1, false)
    ∷ (row (nasi a) [] [] (a ∷ a ∷ []) 1, false)
    ∷ [])
unfolding lib.Utf8.encode
rows_made = refl

-- no key has two rows
keys_differing : Gives keys_differ (
    ([], true) ∷ (row (nasi a) [] [] [] 1 ∷ row (ari a) [] [] [] 1 ∷ row (nasi b) [] [] [] 1 ∷ [], true)
    ∷ (row (nasi a) [] [] [] 1 ∷ row (nasi a) [] [] [] 2 ∷ [], false)
    ∷ (row (nasi a) [] [] [] 1 ∷ row (nasi b) [] [] [] 1 ∷ row (nasi a) [] [] [] 1 ∷ [], false)
    ∷ [])
keys_differing = refl

-- Orders

-- texts ascend by their bytes
texts_compared : Gives2 text_less (
    (codes "か", codes "かんじ", true) ∷ (codes "かんじ", codes "か", false) ∷ (a, a, false) ∷ (a, codes "あ", true)
    ∷ (codes "あ", a, false)
    ∷ [])
unfolding lib.Utf8.encode
texts_compared = refl

-- keys without okurigana stand before those with it, and each part ascends by the bytes of the reading
keys_ordered : Gives2 key_less (
    (kanji_key, ook_key, true) ∷ (ook_key, kanji_key, false) ∷ (nasi b, ari a, true) ∷ (ari a, nasi b, false)
    ∷ (nasi a, nasi b, true) ∷ (nasi b, nasi a, false) ∷ (ari a, ari b, true) ∷ (ari b, ari a, false)
    ∷ (nasi a, nasi a, false) ∷ (ari a, ari a, false)
    ∷ [])
unfolding lib.Utf8.encode
keys_ordered = refl

-- of two rows the one with the greater stamp is newer, and of equal stamps the one whose reading is less
rows_compared : Gives2 is_newer (
    (row (nasi b) [] [] [] 2, row (nasi a) [] [] [] 1, true) ∷ (row (nasi a) [] [] [] 1, row (nasi b) [] [] [] 2, false)
    ∷ (row (nasi a) [] [] [] 1, row (nasi b) [] [] [] 1, true)
    ∷ (row (nasi b) [] [] [] 1, row (nasi a) [] [] [] 1, false)
    ∷ (row (nasi a) [] [] [] 1, row (nasi a) [] [] [] 1, false)
    ∷ [])
unfolding lib.Utf8.encode
rows_compared = refl

-- lists in order
numbers_sorted : Gives (sort_by nat_lt)
    (([], []) ∷ (2 ∷ 3 ∷ 1 ∷ [], 1 ∷ 2 ∷ 3 ∷ []) ∷ (3 ∷ 1 ∷ 3 ∷ [], 1 ∷ 3 ∷ 3 ∷ []) ∷ [])
numbers_sorted = refl
