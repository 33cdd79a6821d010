-- A reading without spaces is that of a valid key where no reason of a reading fits it.
use Rattle.std.proofs.Common.{◌≡◌, ℕ, Bool, true, not, ◌==◌, ◌||◌, nat_lt, nat_le, List, [], ◌∷◌, refl, arith}
use Rattle.std.specs.List.{list_all, list_any}
use Rattle.std.proofs.lemmas.Bool.Decides.{nat_tests}
use Rattle.skk_text.specs.Text.{byte_len}
use Rattle.skk_calls.specs.declared.part.Part.{Part}
use Rattle.skk_calls.specs.Rows.{is_row_key, is_reading_char, fits_part, reading_limit}
use Rattle.exact_readers.specs.Lacking.{lacks}
use Rattle.dict_format.specs.Reasons.{is_control, is_bad_reading, lacks_letter}

-- Tests

le-not_lt : (a b : ℕ) → nat_le a b ≡ not (nat_lt b a)
le-not_lt a b = grind (arith, nat_tests)

-- Characters

reading_char : (c : ℕ) → not (c == 0x20) ≡ true → is_reading_char c ≡ not (is_control c)
reading_char c space = grind (arith, nat_tests)

reading_chars : (reading : List ℕ) → lacks 0x20 reading ≡ true
    → list_all is_reading_char reading ≡ not (list_any is_control reading)
reading_chars [] none = refl
reading_chars (c ∷ reading) none = grind (arith, reading_char c, reading_chars reading)

-- Keys

fits_part-is : (part : Part) (reading : List ℕ)
    → fits_part part reading ≡ not (nat_lt (reading_limit part) (byte_len reading) || lacks_letter part reading)
fits_part-is part reading = grind (arith, le-not_lt (byte_len reading) 254, le-not_lt (byte_len reading) 255)

-- by which reasons fit
pub key_is : (part : Part) (reading : List ℕ) → lacks 0x20 reading ≡ true → (bad long lacking : Bool)
    → is_bad_reading reading ≡ bad → nat_lt (reading_limit part) (byte_len reading) ≡ long
    → lacks_letter part reading ≡ lacking
    → is_row_key (record { part = part; reading = reading }) ≡ not (bad || (long || lacking))
key_is part reading none bad long lacking is_bad is_long is_lacking =
    grind (arith, reading_chars reading none, fits_part-is part reading)
