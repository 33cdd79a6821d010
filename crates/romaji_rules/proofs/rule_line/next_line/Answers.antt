use Rattle.std.proofs.Common.{◌∙◌, ◌<◌, ◌∷◌, ap, subst, length, length-append, arith}
use Rattle.std.proofs.lemmas.Str.Pattern.{split_parts}
use Rattle.skk_text.specs.Lines.{lines_of}
use Rattle.romaji_rules.specs.RuleFiles.{without_returns}
use Rattle.romaji_rules.proofs.CutLines.{IsCutAtLine, last_line}
use Rattle.romaji_rules.proofs.rule_line.next_line.Goals as goal

pub returns-in-Some : goal.returns-in-Some
returns-in-Some c =
    let cut = subst (IsCutAtLine c.args.text.now) c.in-Some.is
    (split_parts 10 c.args.text.now c.split_once.result c.split_once.ensures.cases (omega arith)) in (
      ap (λ text. lines_of (without_returns text)) cut.0 ∙ c.without_return.ensures c.in-Some.behind.now cut.1,
      omega (arith, ap length cut.0, length-append c.in-Some.line.now (10 ∷ c.in-Some.behind.now)),
    )

pub returns-in-None : goal.returns-in-None
returns-in-None c =
    let one = subst (IsCutAtLine c.args.text.now) c.in-None.is
    (split_parts 10 c.args.text.now c.split_once.result c.split_once.ensures.cases (omega arith)) in
    let some : 0 < length c.args.text.now = grind arith in
    (last_line c.args.text.now some one, some)
