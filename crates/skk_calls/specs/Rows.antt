-- Rows of a dictionary as contracts see them, and what the types of their parts keep.
use Rattle.std.specs.Prelude.{◌≡◌, ◌++◌, ℕ, ◌+◌, Bool, true, false, ◌&&◌, ◌||◌, ◌==◌, not, nat_le, nat_lt, Option, List}
use Rattle.std.specs.Prelude.{[], ◌∷◌, length, map}
use Rattle.std.specs.List.{list_any, list_all}
use Rattle.std.specs.Str.{bytes_eq}
use Rattle.skk_text.specs.Kana.{is_hiragana}
use Rattle.skk_text.specs.Pairs.{all_pairs}
use Rattle.skk_text.specs.Text.{byte_len, last_chars}
use Rattle.skk_calls.specs.declared.part.Part.{Part}
use Rattle.skk_calls.specs.declared.part.Part.TheVariants.{Nasi, Ari}

-- a part of the dictionary, and a reading in it
pub record RowKey : Type 0 where
  pub part : Part
  pub reading : List ℕ

-- a word, and a note that is shown beside it, which may be empty
pub record Cand : Type 0 where
  pub word : List ℕ
  pub note : List ℕ

-- the words that were chosen with one okurigana
pub record Block : Type 0 where
  pub okuri : List ℕ
  pub words : List (List ℕ)

-- the candidates of a key, their blocks, the words that it hides in the layers below, and the count at its last change
pub record Row : Type 0 where
  pub key : RowKey
  pub cands : List Cand
  pub blocks : List Block
  pub hides : List (List ℕ)
  pub stamp : ℕ

-- what was learnt: in which book, under which key, with which stamp, and the row before
pub record Learned : Type 0 where
  pub book : ℕ
  pub key : RowKey
  pub stamp : ℕ
  pub before : Option Row

-- two texts have the same characters
abbrev pub same_text : List ℕ → List ℕ → Bool
same_text text other = bytes_eq text other

-- a text stands in a list of texts
abbrev pub has_text : List (List ℕ) → List ℕ → Bool
has_text texts text = list_any (same_text text) texts

-- no text stands twice in a list
abbrev pub texts_differ : List (List ℕ) → Bool
texts_differ texts = all_pairs (λ text other. not (same_text text other)) texts

-- two parts of a dictionary are the same
abbrev pub same_part : Part → Part → Bool
same_part Nasi Nasi = true
same_part Ari Ari = true
same_part part other = false

-- two keys have the same part and the same reading
abbrev pub same_key : RowKey → RowKey → Bool
same_key key other = same_part key.part other.part && same_text key.reading other.reading

-- a character may begin a reading: it is no `;`
abbrev pub may_begin_reading : ℕ → Bool
may_begin_reading c = not (c == 0x3B)

-- a text is not empty, and its first character may begin a reading
abbrev pub begins_well : List ℕ → Bool
begins_well [] = false
begins_well (c ∷ text) = may_begin_reading c

-- a character may stand in a reading: it lies behind the space, and is no DEL
abbrev pub is_reading_char : ℕ → Bool
is_reading_char c = nat_lt 0x20 c && not (c == 0x7F)

-- a text is one letter from `a` to `z`
abbrev pub is_letter : List ℕ → Bool
is_letter [] = false
is_letter (c ∷ []) = nat_le 0x61 c && nat_le c 0x7A
is_letter (c ∷ d ∷ text) = false

-- the most bytes of a reading: 254 without okurigana, and 255 with it
abbrev pub reading_limit : Part → ℕ
reading_limit Nasi = 254
reading_limit Ari = 255

-- a reading has no more bytes than its part allows, and with okurigana it ends in its letter behind something else
abbrev pub fits_part : Part → List ℕ → Bool
fits_part Nasi text = nat_le (byte_len text) (reading_limit Nasi)
fits_part Ari text =
    nat_le (byte_len text) (reading_limit Ari) && (nat_le 2 (length text) && is_letter (last_chars 1 text))

-- a key has a reading that is valid in its part
abbrev pub is_row_key : RowKey → Bool
is_row_key key =
    begins_well key.reading && (list_all is_reading_char key.reading && fits_part key.part key.reading)

-- a character may stand in an okurigana: it is a hiragana that has a katakana, or ー
abbrev pub is_okuri_char : ℕ → Bool
is_okuri_char c = is_hiragana c || c == 0x30FC

-- the most bytes of an okurigana
abbrev pub okuri_limit : ℕ
okuri_limit = 60

-- an okurigana is not empty, not too long, and of such characters alone
abbrev pub is_okuri : List ℕ → Bool
is_okuri text = nat_le 1 (byte_len text) && (nat_le (byte_len text) okuri_limit && list_all is_okuri_char text)

-- a character may stand in a note: it is no `/`, CR or LF
abbrev pub is_note_char : ℕ → Bool
is_note_char c = not (c == 0x2F || (c == 13 || c == 10))

-- a note has such characters alone
abbrev pub is_note : List ℕ → Bool
is_note note = list_all is_note_char note

-- the most bytes of a word with its note
abbrev pub word_limit : ℕ
word_limit = 4095

-- a word is not empty, and not too long
abbrev pub is_word : List ℕ → Bool
is_word word = nat_le 1 (length word) && nat_le (byte_len word) word_limit

-- a candidate has a word and a valid note, which are not too long together
abbrev pub is_cand : Cand → Bool
is_cand cand =
    nat_le 1 (length cand.word)
    && (is_note cand.note && nat_le (byte_len cand.word + byte_len cand.note) word_limit)

-- a block has a valid okurigana, and at least one word, all of them words that differ
abbrev pub is_block : Block → Bool
is_block block =
    is_okuri block.okuri
    && (nat_le 1 (length block.words) && (list_all is_word block.words && texts_differ block.words))

-- a key without okurigana has no blocks
abbrev pub fits_blocks : Part → List Block → Bool
fits_blocks Nasi [] = true
fits_blocks Nasi (block ∷ blocks) = false
fits_blocks Ari blocks = true

-- the words of candidates, in order
abbrev pub words_of : List Cand → List (List ℕ)
words_of cands = map (λ cand. cand.word) cands

-- the okurigana of blocks, in order
abbrev pub okuri_of : List Block → List (List ℕ)
okuri_of blocks = map (λ block. block.okuri) blocks

-- a row has a valid key, candidates whose words differ, blocks that fit its part and whose okurigana differ, and hidden
-- words that differ
abbrev pub is_row : Row → Bool
is_row row =
    is_row_key row.key
    && (list_all is_cand row.cands && texts_differ (words_of row.cands)
    && (fits_blocks row.key.part row.blocks && list_all is_block row.blocks && texts_differ (okuri_of row.blocks)
    && texts_differ row.hides))

-- no key has two of the rows
abbrev pub keys_differ : List Row → Bool
keys_differ rows = all_pairs (λ row other. not (same_key row.key other.key)) rows

-- the first character of a text that no note has stands at this byte
abbrev pub IsBadNote : List ℕ → ℕ → Type 0
IsBadNote note at =
    (prefix : List ℕ) × (c : ℕ) × (rest : List ℕ) × (note ≡ prefix ++ c ∷ rest)
    × (is_note prefix ≡ true) × (is_note_char c ≡ false) × (at ≡ byte_len prefix)
