-- Decimal numbers in texts.
use Rattle.std.proofs.Common.{◌≡◌, ◌<◌, ◌≤◌, ◌+◌, ◌-◌, ◌*◌, ◌^◌, sym, ℕ, suc, List, ◌∷◌, ◌++◌, length, take, get_or}
use Rattle.std.proofs.Common.{refl, ap, ◌∙◌, subst, arith, inl, inr, length-append}
use Rattle.std.specs.Fmt.{decimal}
use Rattle.std.specs.Int.{IsInRange}
use Rattle.std.specs.Char.{digit_value}
use Rattle.std.specs.Str.Parse.{AllDigits, digits_value}
use Rattle.std.proofs.lemmas.Fmt.{digits_decimal, decimal_nonempty, decimal_digit, first_decimal, length-decimal-le}
use Rattle.std.proofs.lemmas.Fmt.{decimal_injective, decimal-digits_value}
use Rattle.std.proofs.lemmas.Int.Digits.{digits_value_more, digits_more}
use Rattle.std.proofs.lemmas.List.{get_or_append_left, get_or_at, length-take-le, take_at, append_cancel_left}
use Rattle.std.proofs.lemmas.Str.{digit_value_digit}
use Rattle.std.proofs.lemmas.Str.Parse.{IsNumeralModel, numerals_by_value, tells_digits, digit_at}
use Rattle.std.proofs.lemmas.Str.Parse.{digit_from_value, digits_value_short}
use Rattle.std.proofs.lemmas.Bool.{cases_eq, cases_order}

-- digits, and the number that they write
own : IsNumeralModel (AllDigits 10) (digits_value 10)
own = numerals_by_value (AllDigits 10) tells_digits

-- a number's bytes are digits
pub decimal-digit_at : (number place : ℕ) → number ≤ 99999 → place < length (decimal number)
    → IsInRange 48 57 (get_or (decimal number) place 0)
decimal-digit_at number place small within =
    digit_at (decimal number) place (digits_decimal own number (omega arith)) within

-- it has one byte at least, and five at most
pub decimal-length : (number : ℕ) → number ≤ 99999 → (0 < length (decimal number)) × (length (decimal number) ≤ 5)
decimal-length number small =
    (decimal_nonempty number (omega arith), length-decimal-le 5 number (omega arith) (omega arith) (omega arith))

-- and begins with 0 only if it is 0
pub decimal-zero_alone : (number : ℕ) → number ≤ 99999 → get_or (decimal number) 0 0 ≡ 48 → length (decimal number) ≡ 1
decimal-zero_alone number small first =
    elim (cases_eq number 0) [
      | inl e ↦ ap length (ap decimal e ∙ decimal_digit 0 (omega arith))
      | inr some ↦ absurd (omega (arith, first_decimal number (omega arith) (omega arith)))
    ]

-- the digits that a text begins with are those of the number, where a number and a byte that is no digit begin it
pub decimal-ends : (text rest : List ℕ) (number mark end : ℕ) → number ≤ 99999 → (¬ IsInRange 48 57 mark)
    → text ≡ decimal number ++ mark ∷ rest →
    ((place : ℕ) → place < end → IsInRange 48 57 (get_or text place 0))
    → (end < length text → ¬ IsInRange 48 57 (get_or text end 0)) →
    end ≡ length (decimal number)
decimal-ends text rest number mark end small no_digit e digits ends =
    let long : length text ≡ length (decimal number) + suc (length rest) =
    ap length e ∙ length-append (decimal number) (mark ∷ rest) in
    elim (cases_order end (length (decimal number))) [
      | inl same ↦ same
      | inr (inl less) ↦
          let at : get_or text end 0 ≡ get_or (decimal number) end 0 =
          ap (λ t. get_or t end 0) e ∙ get_or_append_left (decimal number) (mark ∷ rest) 0 end less in
          absurd (ends (omega arith) (subst (IsInRange 48 57) (sym at) (decimal-digit_at number end small less)))
      | inr (inr more) ↦
          let at : get_or text (length (decimal number)) 0 ≡ mark = ap (λ t. get_or t (length (decimal number)) 0) e
          ∙ get_or_at (decimal number) mark rest 0 (length (decimal number)) refl in
          absurd (no_digit (subst (IsInRange 48 57) at (digits (length (decimal number)) more)))
    ]

-- so a text begins with one number, one byte behind it, and one rest
pub one_number : (text rest others : List ℕ) (number mark other sign : ℕ) → number ≤ 99999 → (¬ IsInRange 48 57 mark)
    → text ≡ decimal number ++ mark ∷ rest →
    other ≤ 99999 → (¬ IsInRange 48 57 sign) → text ≡ decimal other ++ sign ∷ others →
    (number ≡ other) × (mark ≡ sign) × (rest ≡ others)
one_number text rest others number mark other sign small no_digit e other_small sign_no_digit other_e =
    let same : length (decimal number) ≡ length (decimal other) =
    decimal-ends text others other sign (length (decimal number)) other_small sign_no_digit other_e
    (λ place within. subst (IsInRange 48 57)
    (sym (ap (λ t. get_or t place 0) e ∙ get_or_append_left (decimal number) (mark ∷ rest) 0 place within))
    (decimal-digit_at number place small within))
    (λ within digit. no_digit (subst (IsInRange 48 57) (ap (λ t. get_or t (length (decimal number)) 0) e
    ∙ get_or_at (decimal number) mark rest 0 (length (decimal number)) refl) digit)) in
    let front : decimal number ≡ decimal other =
    sym (take_at (decimal number) (mark ∷ rest) (length (decimal number)) refl)
    ∙ ap (take (length (decimal number))) (sym e ∙ other_e)
    ∙ take_at (decimal other) (sign ∷ others) (length (decimal number)) (sym same) in
    let back : mark ∷ rest ≡ sign ∷ others = append_cancel_left (decimal number) (mark ∷ rest) (sign ∷ others) (sym e
    ∙ other_e ∙ ap (λ t. t ++ sign ∷ others) (sym front)) in
    (decimal_injective number other (omega arith) (omega arith) front, cc, cc)

-- the number that the first digits write grows by the next digit, and stays below 100000
pub one_more_digit : (text : List ℕ) (place : ℕ) → place < length text → length text ≤ 5
    → AllDigits 10 (take place text) → digit_value (get_or text place 0) < 10 →
    AllDigits 10 (take (place + 1) text)
    × (digits_value 10 (take (place + 1) text) ≡ digits_value 10 (take place text) * 10 + (get_or text place 0 - 48))
    × (digits_value 10 (take (place + 1) text) ≤ 99999)
one_more_digit text place within short digits digit =
    let more : AllDigits 10 (take (place + 1) text) = digits_more 10 text place within digits digit in
    let long : length (take (place + 1) text) ≤ 5 = omega (arith, length-take-le (place + 1) text (omega arith)) in
    let small : digits_value 10 (take (place + 1) text) < 10 ^ 5 =
    digits_value_short own (take (place + 1) text) 5 more long in
    let value : digit_value (get_or text place 0) + 48 ≡ get_or text place 0 =
    digit_value_digit (get_or text place 0) (digit_from_value (get_or text place 0) digit) in (
      more,
      digits_value_more 10 text place within ∙ ap (λ d. digits_value 10 (take place text) * 10 + d) (omega arith),
      omega arith,
    )

-- digits without a leading zero are a number
pub number-written : (text : List ℕ) (value : ℕ) → AllDigits 10 text → 0 < length text → length text ≤ 5
    → (get_or text 0 0 ≡ 48 → length text ≡ 1) →
    value ≡ digits_value 10 text → (value ≤ 99999) × (text ≡ decimal value)
number-written text value digits some short alone e =
    let small : digits_value 10 text < 10 ^ 5 = digits_value_short own text 5 digits short in
    (omega arith, sym (ap decimal e ∙ decimal-digits_value own text digits some alone (omega arith)))
