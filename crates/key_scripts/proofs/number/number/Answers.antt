use Rattle.std.proofs.Common.{◌≡◌, ℕ, List, length, get_or, take, ap, subst, sym, ◌∙◌, arith}
use Rattle.std.specs.Fmt.{decimal}
use Rattle.std.specs.Char.{IsNotAsciiDigit, IsAsciiDigit}
use Rattle.std.specs.Int.{IsInRange}
use Rattle.std.specs.Str.Parse.{AllDigits, digits_value}
use Rattle.std.proofs.lemmas.Bool.{OnTrue_at, MatchBool-at_false}
use Rattle.std.proofs.lemmas.List.{take_all}
use Rattle.key_scripts.proofs.Numbers.{decimal-length, decimal-zero_alone, decimal-digit_at, one_more_digit}
use Rattle.key_scripts.proofs.Numbers.{number-written}
use Rattle.key_scripts.proofs.number.number.Goals as goal
use Rattle.key_scripts.proofs.number.number.Goals.{then-is_empty-via-then-is_empty}
use Rattle.key_scripts.proofs.number.number.Goals.{then-is_empty-via-else-is_empty+then-text-gt5}

pub returns-then-is_empty-clause-none : goal.returns-then-is_empty-clause-none
returns-then-is_empty-clause-none c =
    λ none n small e. let both = decimal-length n small in let same = ap length e in grind arith

pub returns-then-text-eq48-clause-none : goal.returns-then-text-eq48-clause-none
returns-then-text-eq48-clause-none c = λ none n small e.
    let long = ap length e in
    omega (arith, decimal-zero_alone n small (sym (ap (λ t. get_or t 0 0) e) ∙ c.if-text-eq48.true))

pub returns-then-not-is_ascii_digit-clause-none : goal.returns-then-not-is_ascii_digit-clause-none
returns-then-not-is_ascii_digit-clause-none c = λ none n small e.
    let place = c.loop-digit.digit-index in
    let long : length c.args.text.now ≡ length (decimal n) = ap length e in
    let digit : IsInRange 48 57 (get_or c.args.text.now place 0) =
    subst (λ (t : List ℕ). IsInRange 48 57 (get_or t place 0)) (sym e) (decimal-digit_at n place small (omega arith)) in
    let other : IsNotAsciiDigit (get_or c.args.text.now place 0) =
    MatchBool-at_false (IsAsciiDigit (get_or c.args.text.now place 0))
    (IsNotAsciiDigit (get_or c.args.text.now place 0)) c.if-not-is_ascii_digit.true c.is_ascii_digit.ensures.cases in
    omega arith

pub overflow_mul-value : goal.overflow_mul-value
overflow_mul-value c =
    let more = one_more_digit c.args.text.now c.loop-digit.digit-index c.loop-digit-test.true c.if-text-gt5.false
    c.loop-digit.invariant.digits (OnTrue_at c.if-not-is_ascii_digit.false c.is_ascii_digit.ensures.bound) in
    omega arith

pub overflow_add-value : goal.overflow_add-value
overflow_add-value c =
    let more = one_more_digit c.args.text.now c.loop-digit.digit-index c.loop-digit-test.true c.if-text-gt5.false
    c.loop-digit.invariant.digits (OnTrue_at c.if-not-is_ascii_digit.false c.is_ascii_digit.ensures.bound) in
    omega arith

pub loop-digit-preserved : goal.loop-digit-preserved
loop-digit-preserved c =
    let more = one_more_digit c.args.text.now c.loop-digit.digit-index c.loop-digit-test.true c.if-text-gt5.false
    c.loop-digit.invariant.digits (OnTrue_at c.if-not-is_ascii_digit.false c.is_ascii_digit.ensures.bound) in
    record { digits = more.0; written = omega arith }

pub returns-clause-some : goal.returns-clause-some
returns-clause-some c =
    let all : take c.loop-digit.digit-index c.args.text.now ≡ c.args.text.now =
    take_all c.loop-digit.digit-index c.args.text.now (omega arith) in
    number-written c.args.text.now c.loop-digit.value (subst (AllDigits 10) all c.loop-digit.invariant.digits)
    (grind arith) (omega arith) (λ first. grind arith) (c.loop-digit.invariant.written ∙ ap (digits_value 10) all)
