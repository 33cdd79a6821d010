use Rattle.std.proofs.Common.{sym, subst}
use Rattle.skk_journal.specs.Choice.{ChoosesVersion}
use Rattle.skk_journal.proofs.HeadsOf.{choice_right}
use Rattle.skk_journal.proofs.choice.read_choice.Goals as goal

pub returns-clause-right : goal.returns-clause-right
returns-clause-right g c =
    subst (ChoosesVersion c.args.newest) (sym c.choose.ensures)
    (choice_right c.args.newest c.in_ok-first.first.head c.in_ok-second.second.head c.in_ok-first.ensures.right
    c.in_ok-second.ensures.right)
