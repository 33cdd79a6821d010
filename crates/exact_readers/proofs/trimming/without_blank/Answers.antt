use Rattle.std.proofs.Common.{refl, subst, arith}
use Rattle.std.proofs.lemmas.Str.Pattern.{strip_suffix_char}
use Rattle.exact_readers.specs.LineLaws.{IsCutAtEnd}
use Rattle.exact_readers.specs.TrimmingLaws.{tab-or-none}
use Rattle.exact_readers.proofs.trimming.without_blank.Goals as goal

pub returns-in-Some : goal.returns-in-Some
returns-in-Some c = (
  0x20,
  refl,
  subst (IsCutAtEnd 0x20 c.args.line.now) c.in-Some.is
      (strip_suffix_char 0x20 c.args.line.now c.strip_suffix.result c.strip_suffix.ensures.cases (omega arith)),
)

pub returns-in-None : goal.returns-in-None
returns-in-None c =
    tab-or-none c.args.line.now c.strip_suffix-in-None.result
    (subst (IsCutAtEnd 0x20 c.args.line.now) c.in-None.is
    (strip_suffix_char 0x20 c.args.line.now c.strip_suffix.result c.strip_suffix.ensures.cases (omega arith)))
    (strip_suffix_char 9 c.args.line.now c.strip_suffix-in-None.result
    c.strip_suffix-in-None.ensures.cases (omega arith))
