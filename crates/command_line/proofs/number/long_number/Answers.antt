use Rattle.std.proofs.Common.{◌≡◌, ◌∙◌, None, Some, Ok, false, sym, ap}
use Rattle.std.specs.Fmt.{decimal}
use Rattle.std.specs.Result.{result_ok}
use Rattle.std.specs.Str.{bytes_eq}
use Rattle.std.proofs.lemmas.Bool.{both_ways, not-true}
use Rattle.std.proofs.lemmas.Slice.Eq.{bytes_eq-Decides}
use Rattle.command_line.proofs.ParsedNumbers.{number-parsed}
use Rattle.command_line.proofs.number.long_number.Goals as goal

pub returns-in_err-number : goal.returns-in_err-number
returns-in_err-number c =
    rw c.from_residual.ensures
    (λ number small e.
    let parsed : c.parse.result ≡ Ok number =
    number-parsed c.args.text.now c.parse.result number c.parse.ensures.value.0 e small in
    let read : c.ok.result ≡ Some number = c.ok.ensures.value ∙ ap result_ok parsed in
    let failed : c.ok.result ≡ None = c.in_err-number.was in
    absurd (cc))

pub returns-then-ne : goal.returns-then-ne
returns-then-ne c = λ number small e.
    let parsed : c.parse.result ≡ Ok number =
    number-parsed c.args.text.now c.parse.result number c.parse.ensures.value.0 e small in
    let read : c.ok.result ≡ Some number = c.ok.ensures.value ∙ ap result_ok parsed in
    let found : c.ok.result ≡ Some c.in_ok-number.number = c.in_ok-number.was in
    let value : c.in_ok-number.number ≡ number = cc in
    let same : c.format.result.now ≡ c.args.text.now = c.format.ensures.text ∙ ap decimal value ∙ sym e in
    let told : bytes_eq c.format.result.now c.args.text.now ≡ false =
    not-true (bytes_eq c.format.result.now c.args.text.now) (sym c.ne.ensures ∙ c.if-ne.true) in
    both_ways (bytes_eq c.format.result.now c.args.text.now) told
    ((bytes_eq-Decides c.format.result.now c.args.text.now).1 same)
