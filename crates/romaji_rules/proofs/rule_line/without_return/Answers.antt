use Rattle.std.proofs.Common.{◌∙◌, ◌++◌, ◌∷◌, ap, subst, arith}
use Rattle.std.proofs.lemmas.Str.Pattern.{strip_suffix_char}
use Rattle.skk_text.specs.Lines.{lines_of}
use Rattle.romaji_rules.specs.RuleFiles.{without_returns}
use Rattle.romaji_rules.specs.RuleLines.{IsOneLine}
use Rattle.romaji_rules.proofs.CutLines.{IsCutAtEnd, returned, unreturned}
use Rattle.romaji_rules.proofs.rule_line.without_return.Goals as goal

pub returns-in-Some : goal.returns-in-Some
returns-in-Some c behind one =
    let cut = subst (IsCutAtEnd 13 c.args.line.now) c.in-Some.is
    (strip_suffix_char 13 c.args.line.now c.strip_suffix.result c.strip_suffix.ensures.cases (omega arith)) in
    ap (λ line. lines_of (without_returns (line ++ 10 ∷ behind))) cut
    ∙ returned c.in-Some.shorter.now behind (subst IsOneLine cut one)

pub returns-in-None : goal.returns-in-None
returns-in-None c behind one =
    unreturned c.args.line.now behind one (subst (IsCutAtEnd 13 c.args.line.now) c.in-None.is
    (strip_suffix_char 13 c.args.line.now c.strip_suffix.result c.strip_suffix.ensures.cases (omega arith)))
