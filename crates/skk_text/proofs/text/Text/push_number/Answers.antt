use Rattle.std.proofs.Common.{◌≡◌, ◌∙◌, ap, arith}
use Rattle.std.specs.Fmt.{decimal}
use Rattle.std.specs.Str.{chars}
use Rattle.std.proofs.lemmas.Fmt.{IsAscii-decimal}
use Rattle.std.proofs.lemmas.Str.{chars-IsAscii}
use Rattle.skk_text.proofs.text.Text.push_number.Goals as goal

pub returns-clause-ok : goal.returns-clause-ok
returns-clause-ok c =
    let number = c.args.number in
    let digits : chars c.format.result.now ≡ decimal number =
    ap chars c.format.ensures.text ∙ chars-IsAscii (decimal number) (IsAscii-decimal number (omega arith)) in
    rw digits at c.push_str.ensures.ok
