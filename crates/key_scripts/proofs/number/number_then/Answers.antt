use Rattle.std.proofs.Common.{◌≡◌, ◌+◌, ◌∷◌, suc, length, take, ap, ◌∙◌, sym, arith, length-append, refl}
use Rattle.std.specs.Fmt.{decimal}
use Rattle.std.proofs.lemmas.List.{take_at}
use Rattle.key_scripts.proofs.Numbers.{decimal-ends}
use Rattle.key_scripts.proofs.number.number_then.Goals as goal

pub returns-then-end-text-clause-none : goal.returns-then-end-text-clause-none
returns-then-end-text-clause-none c = λ none n mark rest small no_digit e.
    let known = c.digits_len-end.ensures in
    let ends : c.digits_len-end.result ≡ length (decimal n) =
    decimal-ends c.args.text.now rest n mark c.digits_len-end.result small no_digit e known.digits known.ends in
    let long : length c.args.text.now ≡ length (decimal n) + suc (length rest) =
    ap length e ∙ length-append (decimal n) (mark ∷ rest) in
    omega arith

pub returns-in_err-value-clause-none : goal.returns-in_err-value-clause-none
returns-in_err-value-clause-none c = λ none n mark rest small no_digit e.
    let known = c.digits_len-end.ensures in
    let ends : c.digits_len-end.result ≡ length (decimal n) =
    decimal-ends c.args.text.now rest n mark c.digits_len-end.result small no_digit e known.digits known.ends in
    let h = c.in_err-value in let g = c.number.ensures.none in
    let front : take c.digits_len-end.result c.args.text.now ≡ decimal n =
    ap (take c.digits_len-end.result) e ∙ take_at (decimal n) (mark ∷ rest) c.digits_len-end.result (sym ends) in
    c.in_err-value.ensures.none refl n small front
