use Rattle.std.proofs.Common.{arith, subst, sym}
use Rattle.std.proofs.lemmas.Str.Pattern.{strip_suffix_char}
use Rattle.exact_readers.specs.LineLaws.{IsCutAtEnd}
use Rattle.dict_files.proofs.PlainLines.{ends-other, ends-slashed}
use Rattle.dict_files.proofs.plain_lines.ends_in_slash.Goals as goal

pub returns-in-Some : goal.returns-in-Some
returns-in-Some c =
    sym (ends-slashed c.args.text.now c.in-Some.field-0.now c.utf8.text
    (subst (IsCutAtEnd 0x2F c.args.text.now) c.in-Some.is
    (strip_suffix_char 0x2F c.args.text.now c.strip_suffix.result c.strip_suffix.ensures.cases (omega arith))))

pub returns-in-None : goal.returns-in-None
returns-in-None c =
    sym (ends-other c.args.text.now c.utf8.text
    (subst (IsCutAtEnd 0x2F c.args.text.now) c.in-None.is
    (strip_suffix_char 0x2F c.args.text.now c.strip_suffix.result c.strip_suffix.ensures.cases (omega arith))))
