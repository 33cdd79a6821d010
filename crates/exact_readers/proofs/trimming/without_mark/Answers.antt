use Rattle.std.proofs.Common.{sym, subst}
use Rattle.exact_readers.specs.TrimmingLaws.{IsCutAtMark, mark-gone, mark-none}
use Rattle.exact_readers.proofs.trimming.without_mark.Goals as goal

pub returns-in-Some : goal.returns-in-Some
returns-in-Some c =
    mark-gone c.args.text.now c.in-Some.behind
    (subst (IsCutAtMark c.args.text.now) c.in-Some.is c.strip_prefix.ensures.cases)

pub returns-in-None : goal.returns-in-None
unfolding lib.Utf8.encode
returns-in-None c =
    sym (mark-none c.args.text.now (subst (IsCutAtMark c.args.text.now) c.in-None.is c.strip_prefix.ensures.cases))
