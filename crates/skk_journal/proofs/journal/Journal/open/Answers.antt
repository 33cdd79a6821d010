use Rattle.std.proofs.Common.{sym, subst}
use Rattle.skk_journal.specs.Images.{StillOpens}
use Rattle.skk_journal.proofs.Opened.{still_opens}
use Rattle.skk_journal.proofs.journal.Journal.open.Goals as goal

pub returns-in_default-clause-images : goal.returns-in_default-clause-images
returns-in_default-clause-images g c contents start same opens image left =
    subst (StillOpens c.args.newest start contents) (sym (same image left))
    (still_opens c.args.newest start contents opens)
