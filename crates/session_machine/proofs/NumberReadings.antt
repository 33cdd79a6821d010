-- The number key of a reading is a reading, and so is each of its numbers.
use Rattle.std.proofs.Common.{◌≡◌, ◌≤◌, ℕ, true, false, Some, None}
use Rattle.std.proofs.Common.{List, [], ◌∷◌, refl, arith}
use Rattle.std.specs.Char.{is_ascii_digit}
use Rattle.std.specs.List.{filter, list_all, list_any}
use Rattle.numeric_entries.specs.KeyLaws.{key_begins, key_passes, key_bytes, numbers_pass, number_passes}
use Rattle.numeric_entries.specs.Numbers.{NumberKey, begins, is_number, key_of, number_key, numbers_of, runs_of}
use Rattle.numeric_entries.specs.Numbers.{with_character}
use Rattle.skk_calls.specs.Dictionary.{is_plain_reading}
use Rattle.skk_calls.specs.Rows.{begins_well, is_reading_char, may_begin_reading}
use Rattle.skk_text.specs.Text.{byte_len}

-- a text begins well where its first character may begin a reading
begins-well : (text : List ℕ) → begins_well text ≡ begins may_begin_reading text
begins-well [] = refl
begins-well (c ∷ text) = refl

-- a text that begins well, of characters of readings, and is short enough, is a reading
valid : (text : List ℕ) → begins may_begin_reading text ≡ true → list_all is_reading_char text ≡ true
    → byte_len text ≤ 254 → is_plain_reading text ≡ true
valid text begin all short = grind (arith, begins-well text)

-- and a reading has at most so many bytes
short : (text : List ℕ) → is_plain_reading text ≡ true → byte_len text ≤ 254
short text plain = grind arith

-- the number key of a reading is one
pub key_valid : (text : List ℕ) → is_plain_reading text ≡ true → is_plain_reading (key_of text) ≡ true
key_valid text plain =
    grind (
      arith,
      begins-well text,
      valid (key_of text),
      key_begins may_begin_reading text refl,
      key_passes is_reading_char text refl,
      key_bytes text,
      short text plain,
    )

-- a digit may stand in a reading, and at its head
digit-stands : (c : ℕ) → is_ascii_digit c ≡ true → is_reading_char c ≡ true
digit-stands c digit = grind arith

digit-begins : (c : ℕ) → is_ascii_digit c ≡ true → may_begin_reading c ≡ true
digit-begins c digit = grind arith

-- each number of a reading is one
pub numbers_valid : (text : List ℕ) → is_plain_reading text ≡ true → list_all is_plain_reading (numbers_of text) ≡ true
numbers_valid text plain = numbers_pass is_plain_reading text one
  where
    one : (number : List ℕ) → is_number number ≡ true → byte_len number ≤ byte_len text
        → is_plain_reading number ≡ true
    one number is few =
        valid number (number_passes may_begin_reading number digit-begins is).0
        (number_passes is_reading_char number digit-stands is).1 (omega (arith, few, short text plain))

-- a reading that has a number key holds a digit, and the key is that of its numbers
pub digits-some : (text : List ℕ) (found : NumberKey) → number_key text ≡ Some found
    → (list_any is_ascii_digit text ≡ true) × ((found.key ≡ key_of text) × (found.numbers ≡ numbers_of text))
digits-some text found is = grind arith

-- and one that has none holds no digit
pub digits-none : (text : List ℕ) → number_key text ≡ None → list_any is_ascii_digit text ≡ false
digits-none text is = grind arith

-- and has no numbers
pub no_numbers : (text : List ℕ) → list_any is_ascii_digit text ≡ false → numbers_of text ≡ []
no_numbers [] none = refl
no_numbers (c ∷ text) none = grind (arith, first (runs_of text), no_numbers text)
  where
    first : (runs : List (List ℕ)) → is_ascii_digit c ≡ false → filter is_number runs ≡ []
        → filter is_number (with_character c runs) ≡ []
    first [] other empty = grind arith
    first (run ∷ runs) other empty = grind arith

-- so a reading without a number key has none
pub no_key : (text : List ℕ) → number_key text ≡ None → numbers_of text ≡ []
no_key text is = no_numbers text (digits-none text is)
