-- Numbers that std parses.
use Rattle.std.proofs.Common.{◌≡◌, ◌∙◌, ◌<◌, ◌^◌, ℕ, List, Result, Ok, ap, subst}
use Rattle.std.specs.Fmt.{decimal}
use Rattle.std.specs.Str.Parse.{AllDigits, digits_value, ParsesUnsigned}
use Rattle.std.proofs.lemmas.Fmt.{decimal_is_IsNumeral}
use Rattle.std.proofs.lemmas.Str.Parse.{parse_gives, IsNumeralModel, numerals_by_value, tells_digits}

-- digits, and the number that they write
own : IsNumeralModel (AllDigits 10) (digits_value 10)
own = numerals_by_value (AllDigits 10) tells_digits

-- a text that a number writes is parsed to that number
pub number-parsed : {E : Type 0} (text : List ℕ) (parsed : Result ℕ E) (number : ℕ) → ParsesUnsigned 64 10 text parsed
    → text ≡ decimal number → number < 2 ^ 64 → parsed ≡ Ok number
number-parsed text parsed number parses e small =
    let numeral = decimal_is_IsNumeral number small in
    let own_parses = subst (λ (t : List ℕ). ParsesUnsigned 64 10 t parsed) e parses in
    parse_gives own 64 (decimal number) parsed own_parses numeral.0.1 numeral.0.0 (rw numeral.1 small) ∙ ap Ok numeral.1
