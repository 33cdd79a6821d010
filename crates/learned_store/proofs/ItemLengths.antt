-- The reading of a key and a candidate as an item are not too long for a line, whatever the item quotes.
use Rattle.std.proofs.Common.{◌≡◌, ◌+◌, ◌*◌, ◌≤◌, ℕ, Bool, true, false, ◌||◌, cond, List, [], ◌∷◌, ◌++◌}
use Rattle.std.proofs.Common.{codes, refl, arith}
use Rattle.std.specs.List.{flat_map, list_any}
use Rattle.std.proofs.lemmas.Str.{length-le-encodes}
use Rattle.skk_text.specs.Text.{byte_len}
use Rattle.skk_text.specs.TextLaws.{byte_len-append}
use Rattle.skk_calls.specs.Canonical.{begins_form, char_in_string, is_special, item, quoted}
use Rattle.skk_calls.specs.Canonical.{written_note}
use Rattle.skk_calls.specs.Canonical.{written_word}
use Rattle.skk_calls.specs.declared.part.Part.{Part}
use Rattle.skk_calls.specs.Rows.{RowKey, Cand, fits_part, is_row_key, is_cand}

-- what is escaped has four bytes at most
four : byte_len (codes "\\057") ≡ 4
unfolding lib.Utf8.encode
four = refl

also_four : byte_len (codes "\\073") ≡ 4
unfolding lib.Utf8.encode
also_four = refl

quote : byte_len (codes "\\\"") ≡ 2
unfolding lib.Utf8.encode
quote = refl

backslash : byte_len (codes "\\\\") ≡ 2
unfolding lib.Utf8.encode
backslash = refl

return : byte_len (codes "\\r") ≡ 2
unfolding lib.Utf8.encode
return = refl

line_end : byte_len (codes "\\n") ≡ 2
unfolding lib.Utf8.encode
line_end = refl

-- what stands around a word that is quoted, and before a note
around : (byte_len (codes "(concat ") ≡ 8) × (byte_len (0x22 ∷ []) ≡ 1) × (byte_len (codes ")") ≡ 1)
    × (byte_len (0x3B ∷ []) ≡ 1)
unfolding lib.Utf8.encode
around = (refl, refl, refl, refl)

-- a character has a byte
some_byte : (c : ℕ) → 1 ≤ byte_len (c ∷ [])
some_byte c = length-le-encodes (c ∷ [])

-- a character in a string has four times as many bytes at most
char_most : (c : ℕ) → byte_len (char_in_string c) ≤ 4 * byte_len (c ∷ [])
char_most c = grind (arith, some_byte c, four, also_four, quote, backslash, return, line_end)

-- and so has a text
text_most : (text : List ℕ) → byte_len (flat_map char_in_string text) ≤ 4 * byte_len text
text_most [] = omega arith
text_most (c ∷ text) =
    omega (
      arith,
      byte_len-append (char_in_string c) (flat_map char_in_string text),
      byte_len-append (c ∷ []) text,
      char_most c,
      text_most text,
    )

quoted_most : (text : List ℕ) → byte_len (quoted text) ≤ 4 * byte_len text + 2
quoted_most text =
    let inner = flat_map char_in_string text in
    omega (
      arith,
      byte_len-append (0x22 ∷ inner) (0x22 ∷ []),
      byte_len-append (0x22 ∷ []) inner,
      around.1,
      text_most text,
    )

word_most : (word : List ℕ) → byte_len (written_word word) ≤ 4 * byte_len word + 11
word_most word =
    let long : byte_len (codes "(concat " ++ quoted word ++ codes ")") ≤ 4 * byte_len word + 11 = omega (
      arith,
      byte_len-append (codes "(concat " ++ quoted word) (codes ")"),
      byte_len-append (codes "(concat ") (quoted word),
      around.0,
      around.2,
      quoted_most word,
    ) in
    by (list_any is_special word || begins_form word) long
  where
    by : (b : Bool) → byte_len (codes "(concat " ++ quoted word ++ codes ")") ≤ 4 * byte_len word + 11
        → byte_len (cond b (codes "(concat " ++ quoted word ++ codes ")") word) ≤ 4 * byte_len word + 11
    by true long = long
    by false long = omega arith

note_most : (note : List ℕ) → byte_len (written_note note) ≤ byte_len note + 1
note_most [] = omega arith
note_most (c ∷ note) = omega (arith, byte_len-append (0x3B ∷ []) (c ∷ note), around.3)

short_part : (part : Part) (reading : _) → fits_part part reading ≡ true → byte_len reading ≤ 255
short_part part reading fits = grind arith

-- a key has a reading that is not too long
pub short_reading : (key : RowKey) → is_row_key key ≡ true → byte_len key.reading ≤ 255
short_reading key valid = grind (arith, short_part key.part key.reading)

-- an item has 16,392 bytes at most
pub item_most : (cand : Cand) → is_cand cand ≡ true → byte_len (item cand) ≤ 16392
item_most cand valid =
    let most : byte_len cand.word + byte_len cand.note ≤ 4095 = grind arith in
    omega (
      arith,
      byte_len-append (written_word cand.word) (written_note cand.note),
      word_most cand.word,
      note_most cand.note,
      most,
    )
