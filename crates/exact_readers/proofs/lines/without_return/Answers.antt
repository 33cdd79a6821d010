use Rattle.std.proofs.Common.{◌∙◌, sym, ap, subst, arith}
use Rattle.std.proofs.lemmas.Str.Pattern.{strip_suffix_char}
use Rattle.exact_readers.specs.Lines.{without_return}
use Rattle.exact_readers.specs.LineLaws.{IsCutAtEnd, return-gone, return-none}
use Rattle.exact_readers.proofs.lines.without_return.Goals as goal

pub returns-in-Some : goal.returns-in-Some
returns-in-Some c =
    let cut = subst (IsCutAtEnd 13 c.args.line.now) c.in-Some.is
    (strip_suffix_char 13 c.args.line.now c.strip_suffix.result c.strip_suffix.ensures.cases (omega arith)) in
    sym (ap without_return cut ∙ return-gone c.in-Some.shorter.now)

pub returns-in-None : goal.returns-in-None
returns-in-None c =
    sym (return-none c.args.line.now (subst (IsCutAtEnd 13 c.args.line.now) c.in-None.is
    (strip_suffix_char 13 c.args.line.now c.strip_suffix.result c.strip_suffix.ensures.cases (omega arith))))
