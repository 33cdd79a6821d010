use Rattle.std.proofs.Common.{◌∙◌, sym, ap, rules}
use Rattle.exact_readers.specs.Trimming.{without_blanks}
use Rattle.exact_readers.specs.TrimmingLaws.{blank-gone}
use Rattle.exact_readers.proofs.trimming.without_blanks.Goals as goal

pub loop-shorter-preserved : goal.loop-shorter-preserved
loop-shorter-preserved c =
    let (blank, is, cut) = c.in-Some.ensures in (
      search rules,
      sym (blank-gone c.in-Some.shorter.now blank is) ∙ ap without_blanks (sym cut) ∙ c.loop-shorter.invariant.1,
    )
