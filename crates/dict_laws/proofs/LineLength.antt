-- How many bytes a line of plain words has, and which word is too long to stand beside fifteen others.
use Rattle.std.proofs.Common.{◌≡◌, ◌∙◌, ap, ℕ, ◌+◌, ◌*◌, ◌==◌, Bool, true, false, not, ◌&&◌, ◌||◌, List, [], ◌∷◌, ◌++◌}
use Rattle.std.proofs.Common.{codes, length, map, None, Some, refl, arith}
use Rattle.std.specs.List.{flat_map, list_all, list_any, sum_by}
use Rattle.std.proofs.lemmas.Bool.{and_parts, and_from, not-true, eqb-true, both_ways}
use Rattle.std.proofs.lemmas.List.{append-nil}
use Rattle.std.proofs.lemmas.List.Folds.{list_all-map}
use Rattle.std.proofs.lemmas.List.Sums.{sum_by-cons}
use Rattle.skk_text.specs.TextLaws.{byte_len-append}
use Rattle.skk_text.specs.Text.{byte_len}
use Rattle.skk_text.specs.FilterLaws.{filter_all}
use Rattle.skk_calls.specs.declared.answer.Reply.TheVariants as replies
use Rattle.skk_calls.specs.declared.call.Call.TheVariants.{Learn}
use Rattle.skk_calls.specs.Canonical.{canonical, with_slash, item, items, is_special, begins_form}
use Rattle.skk_text.specs.Lists.{is_empty}
use Rattle.skk_calls.specs.Dictionary.{answer}
use Rattle.skk_calls.specs.Found.{note_of}
use Rattle.skk_calls.specs.Learning.{learnt, without_word}
use Rattle.skk_calls.specs.declared.part.Part.TheVariants.{Nasi}
use Rattle.skk_calls.specs.Rows.{RowKey, Cand, Row, same_text, has_text, words_of}
use Rattle.skk_calls.specs.States.{State}
use Rattle.dict_laws.proofs.Texts.{same_none}

-- a word without a note
abbrev pub plain : List ℕ → Cand
plain word = record { word = word; note = [] }

-- Lines

-- a word that is written as it is
abbrev pub needs_no_quotes : List ℕ → Bool
needs_no_quotes word = not (list_any is_special word || begins_form word)

-- a candidate without a note, whose word is written as it is
abbrev pub is_plain : Cand → Bool
is_plain cand = is_empty cand.note && needs_no_quotes cand.word

-- the bytes of a word and of its slash
abbrev pub slashed : List ℕ → ℕ
slashed word = byte_len word + 1

-- a slash has one byte
length_of_slash : byte_len (0x2F ∷ []) ≡ 1
unfolding lib.Utf8.encode
length_of_slash = refl

-- the space and the slash behind a reading have two bytes
length_of_start : byte_len (0x20 ∷ 0x2F ∷ []) ≡ 2
unfolding lib.Utf8.encode
length_of_start = refl

-- a plain candidate is written as its word
plain_item : (cand : Cand) → is_plain cand ≡ true → item cand ≡ cand.word
plain_item cand e = by cand.note refl
  where
    parts : (is_empty cand.note ≡ true) × (needs_no_quotes cand.word ≡ true)
    parts = and_parts (is_empty cand.note) (needs_no_quotes cand.word) e

    by : (note : List ℕ) → cand.note ≡ note → item cand ≡ cand.word
    by [] f = rw (f, not-true (list_any is_special cand.word || begins_form cand.word) parts.1) (append-nil cand.word)
    by (c ∷ note) f = absurd (both_ways (is_empty cand.note) (ap (λ text. is_empty text) f) parts.0)

-- the items of plain candidates have the bytes of their words and slashes
length_of_items : (cands : List Cand) → list_all is_plain cands ≡ true
    → byte_len (flat_map with_slash (map item cands)) ≡ sum_by slashed (words_of cands)
length_of_items [] all = refl
length_of_items (cand ∷ cands) all =
    let parts = and_parts (is_plain cand) (list_all is_plain cands) all in
    let text = flat_map with_slash (map item cands) in
    rw (plain_item cand parts.0, sum_by-cons slashed cand.word (words_of cands))
    (omega (
      arith,
      byte_len-append (with_slash cand.word) text,
      byte_len-append cand.word (0x2F ∷ []),
      length_of_slash,
      length_of_items cands parts.1,
    ))

-- without blocks and hidden words a row has the items of its candidates
plain_items : (row : Row) → row.blocks ≡ [] → row.hides ≡ [] → items row ≡ map item row.cands
plain_items row no_blocks no_hides = rw (no_blocks, no_hides) (simp append-nil)

-- a line of plain words has the bytes of its reading, two more, and those of each word with its slash
pub line_of_plain_words : (row : Row) → row.blocks ≡ [] → row.hides ≡ [] → list_all is_plain row.cands ≡ true
    → byte_len (canonical row) ≡ byte_len row.key.reading + 2 + sum_by slashed (words_of row.cands)
line_of_plain_words row no_blocks no_hides all =
    ap (λ texts. byte_len (row.key.reading ++ 0x20 ∷ 0x2F ∷ flat_map with_slash texts))
    (plain_items row no_blocks no_hides)
    ∙ parts (flat_map with_slash (map item row.cands)) (length_of_items row.cands all)
  where
    parts : (text : List ℕ) → byte_len text ≡ sum_by slashed (words_of row.cands)
        → byte_len (row.key.reading ++ 0x20 ∷ 0x2F ∷ text)
        ≡ byte_len row.key.reading + 2 + sum_by slashed (words_of row.cands)
    parts text e = omega (
      arith,
      byte_len-append row.key.reading (0x20 ∷ 0x2F ∷ text),
      byte_len-append (0x20 ∷ 0x2F ∷ []) text,
      length_of_start,
      e,
    )

-- A new word

-- candidates without a word that they do not have are all of them
without_new : (texts : List (List ℕ)) (word : List ℕ) → has_text texts word ≡ false
    → without_word word (map plain texts) ≡ map plain texts
without_new texts word new =
    filter_all (λ cand. not (same_text cand.word word)) (map plain texts)
    (list_all-map (λ cand. not (same_text cand.word word)) plain texts ∙ same_none texts word new)

-- where no candidate has a note, none is found
no_note : (texts : List (List ℕ)) (word : List ℕ) → note_of (map plain texts) word ≡ []
no_note [] word = refl
no_note (text ∷ texts) word = by (same_text text word) refl (no_note texts word)
  where
    by : (b : Bool) → same_text text word ≡ b → note_of (map plain texts) word ≡ []
        → note_of (map plain (text ∷ texts)) word ≡ []
    by true e rest = rw e refl
    by false e rest = rw e rest

-- Fifteen long words

-- the key
abbrev pub a_key : RowKey
a_key = record { part = Nasi; reading = codes "a" }

-- a row of words under it, and the state that has this row alone, in book 1
abbrev pub row_of : List (List ℕ) → Row
row_of texts = record { key = a_key; cands = map plain texts; blocks = []; hides = []; stamp = 1 }

abbrev pub state_of : List (List ℕ) → State
state_of texts = record { books = record { number = 1; count = 1; rows = row_of texts ∷ [] } ∷ []; lists = [] }

-- a word of 4,095 bytes that is written as it is
abbrev pub is_long : List ℕ → Bool
is_long word = byte_len word == 4095 && needs_no_quotes word

-- the reading has one byte
length_of_a : byte_len (codes "a") ≡ 1
unfolding lib.Utf8.encode
length_of_a = refl

-- long words make plain candidates
long_are_plain : (texts : List (List ℕ)) → list_all is_long texts ≡ true → list_all is_plain (map plain texts) ≡ true
long_are_plain [] all = refl
long_are_plain (text ∷ texts) all =
    let parts = and_parts (is_long text) (list_all is_long texts) all in
    and_from (is_plain (plain text)) (list_all is_plain (map plain texts))
    (and_parts (byte_len text == 4095) (needs_no_quotes text) parts.0).1 (long_are_plain texts parts.1)

-- each has 4,096 bytes with its slash
length_of_long : (texts : List (List ℕ)) → list_all is_long texts ≡ true
    → sum_by slashed (words_of (map plain texts)) ≡ length texts * 4096
length_of_long [] all = refl
length_of_long (text ∷ texts) all =
    let parts = and_parts (is_long text) (list_all is_long texts) all in
    let bytes = eqb-true (byte_len text) 4095 (and_parts (byte_len text == 4095) (needs_no_quotes text) parts.0).0 in
    rw (sum_by-cons slashed text (words_of (map plain texts))) (omega (arith, bytes, length_of_long texts parts.1))

-- such words, and another word that is written as it is
module _ (files : List (List Row)) (texts : List (List ℕ)) (word : List ℕ)
    (fifteen : length texts ≡ 15) (long : list_all is_long texts ≡ true)
    (new : has_text texts word ≡ false) (unquoted : needs_no_quotes word ≡ true) where
  -- the row after the word is learnt
  abbrev pub row_with_word : Row
  row_with_word = learnt (Some (row_of texts)) a_key None (plain word) 2

  -- the row that has the word first, and then the fifteen
  abbrev spelled_out : Row
  spelled_out = record { key = a_key; cands = map plain (word ∷ texts); blocks = []; hides = []; stamp = 2 }

  -- that is the row after the word is learnt
  row_is : row_with_word ≡ spelled_out
  row_is = rw (no_note texts word, without_new texts word new) refl

  -- its candidates are plain
  all_plain : list_all is_plain (map plain (word ∷ texts)) ≡ true
  all_plain = and_from (needs_no_quotes word) (list_all is_plain (map plain texts)) unquoted (long_are_plain texts long)

  -- its line has 61,444 bytes beside those of the word
  length_spelled_out : byte_len (canonical spelled_out) ≡ byte_len word + 61444
  length_spelled_out = omega (
    arith,
    line_of_plain_words spelled_out refl refl all_plain,
    sum_by-cons slashed word (words_of (map plain texts)),
    length_of_long texts long,
    length_of_a,
    fifteen,
  )

  -- so has the line of the learnt row
  length_with_word : byte_len (canonical row_with_word) ≡ byte_len word + 61444
  length_with_word = ap (λ row. byte_len (canonical row)) row_is ∙ length_spelled_out

  -- with a word of 4,091 bytes the line has 65,535
  pub fullest_line : byte_len word ≡ 4091 → byte_len (canonical row_with_word) ≡ 65535
  fullest_line bytes = omega (arith, length_with_word, bytes)

  -- so that word is learnt
  pub learns_word_that_fits : byte_len word ≡ 4091
      → answer files (state_of texts) (Learn 1 a_key None (plain word))
      ≡ replies.Learned (record { book = 1; key = a_key; stamp = 2; before = Some (row_of texts) })
  learns_word_that_fits bytes = rw (fullest_line bytes) refl

  -- with a word of 4,092 bytes the line has 65,536
  too_long : byte_len word ≡ 4092 → byte_len (canonical row_with_word) ≡ 65536
  too_long bytes = omega (arith, length_with_word, bytes)

  -- so that word makes the row too big
  pub refuses_word_that_does_not_fit : byte_len word ≡ 4092
      → answer files (state_of texts) (Learn 1 a_key None (plain word)) ≡ replies.TooBig 65536
  refuses_word_that_does_not_fit bytes = rw (too_long bytes) refl
