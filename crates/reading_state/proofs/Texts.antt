-- Texts that may stand in an open reading: what is behind them, and what is before.
use Rattle.std.proofs.Common.{◌≡◌, ◌≢◌, zero, suc, Some, slice_get, ◌≤◌, ◌<◌, ℕ, ◌+◌, ◌-◌, Bool, true, false}
use Rattle.std.proofs.Common.{◌&&◌, ◌||◌, not, nat_le, List, [], ◌∷◌, ◌++◌, ◌∙◌, ap, refl, length, drop}
use Rattle.std.proofs.Common.{length-append, append_assoc, arith}
use Rattle.std.specs.List.{list_all}
use Rattle.std.proofs.lemmas.List.{take-append-drop}
use Rattle.std.proofs.lemmas.List.Folds.{list_all-append}
use Rattle.std.proofs.Math.Seq.{drop-append_seam}
use Rattle.std.proofs.lemmas.Str.{encode_ascii, length-le-encodes}
use Rattle.skk_text.specs.Lists.{is_empty}
use Rattle.skk_text.specs.Text.{byte_len, without_last, last_chars}
use Rattle.skk_text.specs.TextLaws.{byte_len-append}
use Rattle.skk_calls.specs.Dictionary.{is_plain_reading}
use Rattle.skk_calls.specs.Rows.{begins_well, is_reading_char, is_okuri_char, is_letter, is_row_key}
use Rattle.skk_calls.specs.declared.part.Part.TheVariants.{Ari}
use Rattle.skk_text.specs.declared.notice.Notice.TheVariants as notices
use Rattle.reading_state.specs.Puts.{may_read, may_end, refusal}
use Rattle.std.proofs.lemmas.Bool.Decides.{nat_tests}

-- a text with a piece behind it is empty where both are
pub is_empty_append : (text piece : List ℕ) → is_empty (text ++ piece) ≡ (is_empty text && is_empty piece)
is_empty_append [] piece = refl
is_empty_append (c ∷ text) piece = refl

-- a text with a character has a byte
some_bytes : (c : ℕ) (text : List ℕ) → nat_le 1 (byte_len (c ∷ text)) ≡ true
some_bytes c text = grind (arith, nat_tests, length-le-encodes (c ∷ text))

-- a reading has at most 254 bytes, and an okurigana at most 60
pub may_read-short : (text : List ℕ) → may_read text ≡ true → byte_len text ≤ 254
may_read-short [] may = omega arith
may_read-short (c ∷ text) may = grind (arith, nat_tests)

pub may_end-short : (text : List ℕ) → may_end text ≡ true → byte_len text ≤ 60
may_end-short [] may = omega arith
may_end-short (c ∷ text) may = grind (arith, nat_tests)

-- what a reading with a piece behind it asks of the piece
pub may_read-behind : (text piece : List ℕ) → may_read text ≡ true → byte_len text + byte_len piece ≤ 254
    → may_read (text ++ piece)
    ≡ (list_all is_reading_char piece && (not (is_empty text) || (is_empty piece || begins_well piece)))
may_read-behind [] [] may fits = refl
may_read-behind [] (c ∷ piece) may fits = grind (arith, nat_tests)
may_read-behind (t ∷ text) piece may fits =
    grind (arith, nat_tests, byte_len-append (t ∷ text) piece, list_all-append is_reading_char (t ∷ text) piece)

-- what an okurigana with a piece behind it asks of the piece
pub may_end-behind : (text piece : List ℕ) → may_end text ≡ true → byte_len text + byte_len piece ≤ 60
    → may_end (text ++ piece) ≡ list_all is_okuri_char piece
may_end-behind [] [] may fits = refl
may_end-behind [] (c ∷ piece) may fits = grind (arith, nat_tests, some_bytes c piece)
may_end-behind (t ∷ text) piece may fits =
    grind (
      arith,
      nat_tests,
      some_bytes t (text ++ piece),
      byte_len-append (t ∷ text) piece,
      list_all-append is_okuri_char (t ∷ text) piece,
    )

-- the beginning of a reading may be one too
may_read-before : (text behind : List ℕ) → may_read (text ++ behind) ≡ true → may_read text ≡ true
may_read-before [] behind may = refl
may_read-before (t ∷ text) behind may =
    grind (arith, nat_tests, byte_len-append (t ∷ text) behind, list_all-append is_reading_char (t ∷ text) behind)

pub may_read-without_last : (text : List ℕ) → may_read text ≡ true → may_read (without_last text) ≡ true
may_read-without_last text may =
    may_read-before (without_last text) (drop (length text - 1) text)
    (ap may_read (take-append-drop (length text - 1) text) ∙ may)

-- the beginning of an okurigana may be one too
may_end-before : (text behind : List ℕ) → may_end (text ++ behind) ≡ true → may_end text ≡ true
may_end-before [] behind may = refl
may_end-before (t ∷ text) behind may =
    grind (
      arith,
      nat_tests,
      some_bytes t text,
      byte_len-append (t ∷ text) behind,
      list_all-append is_okuri_char (t ∷ text) behind,
    )

pub may_end-without_last : (text : List ℕ) → may_end text ≡ true → may_end (without_last text) ≡ true
may_end-without_last text may =
    may_end-before (without_last text) (drop (length text - 1) text)
    (ap may_end (take-append-drop (length text - 1) text) ∙ may)

-- っ alone may stand in an okurigana
pub doubled_may_end : may_end (0x3063 ∷ []) ≡ true
unfolding lib.Utf8.encode
doubled_may_end = refl

-- the last character of a text with one behind it
last_chars-behind : (text : List ℕ) (c : ℕ) → last_chars 1 (text ++ c ∷ []) ≡ c ∷ []
last_chars-behind text c =
    let place : length (text ++ c ∷ []) - 1 ≡ length text = omega (arith, length-append text (c ∷ [])) in
    ap (λ n. drop n (text ++ c ∷ [])) place ∙ drop-append_seam text (c ∷ [])

-- a text that may stand in a reading and is not empty is a reading
pub plain_of_may : (text : List ℕ) → may_read text ≡ true → text ≢ [] → is_plain_reading text ≡ true
plain_of_may [] may some = absurd (some refl)
plain_of_may (c ∷ text) may some = may

-- a reading with a letter behind it is valid with okurigana
pub with_letter_valid : (text : List ℕ) (letter : ℕ) → is_plain_reading text ≡ true → is_letter (letter ∷ []) ≡ true
    → is_row_key (record { part = Ari; reading = text ++ letter ∷ [] }) ≡ true
with_letter_valid [] letter plain is = cc
with_letter_valid (t ∷ text) letter may is =
    grind (
      arith,
      nat_tests,
      encode_ascii letter,
      last_chars-behind (t ∷ text) letter,
      byte_len-append (t ∷ text) (letter ∷ []),
      list_all-append is_reading_char (t ∷ text) (letter ∷ []),
      length-append text (letter ∷ []),
    )

-- the mark `>` takes one byte
mark_bytes : byte_len (0x3E ∷ []) ≡ 1
unfolding lib.Utf8.encode
mark_bytes = refl

-- `>` alone may stand in an open reading
pub mark_may_read : may_read (0x3E ∷ []) ≡ true
unfolding lib.Utf8.encode
mark_may_read = refl

-- a reading with `>` behind it may be one, where it is not too long
pub mark_read : (text : List ℕ) → may_read text ≡ true → is_empty text ≡ false → byte_len text < 254
    → may_read (text ++ 0x3E ∷ []) ≡ true
mark_read text may some fits = rw (may_read-behind text (0x3E ∷ []) may (omega (arith, mark_bytes)), some) refl

-- `>` is put where it fits, and passes the limit where it does not
pub mark_put : (text : List ℕ) → may_read text ≡ true → is_empty text ≡ false → byte_len text < 254
    → refusal 254 may_read text (0x3E ∷ []) ≡ notices.Empty
mark_put text may some fits = grind (arith, nat_tests, mark_bytes, mark_read text)

pub mark_refused : (text : List ℕ) → 254 ≤ byte_len text → refusal 254 may_read text (0x3E ∷ []) ≡ notices.Limit
mark_refused text full = grind (arith, nat_tests, mark_bytes)

-- a valid reading may stand in an open one
pub plain_read : (text : List ℕ) → is_plain_reading text ≡ true → may_read text ≡ true
plain_read [] plain = refl
plain_read (c ∷ text) plain = plain

-- a valid reading is not empty
pub plain_some : (text : List ℕ) → is_plain_reading text ≡ true → is_empty text ≡ false
plain_some [] plain = cc
plain_some (c ∷ text) plain = refl

-- each of the completions that may be kept is a valid reading
pub completion_read : (readings : List (List ℕ)) (place : ℕ) (text : List ℕ) → list_all is_plain_reading readings ≡ true
    → slice_get readings place ≡ Some text → is_plain_reading text ≡ true
completion_read [] place text all at = cc
completion_read (first ∷ rest) zero text all at = grind arith
completion_read (first ∷ rest) (suc place) text all at = grind (arith, completion_read rest place text)

pub ruleset marks = (mark_read, mark_put, mark_refused, may_read-short, byte_len-append, append_assoc)

pub ruleset shortened = (may_read-without_last, may_end-without_last)

pub ruleset may_reads = (may_read-short, may_end-short, may_read-behind, may_end-behind)

pub ruleset completions_read = (plain_read, plain_some, completion_read)
