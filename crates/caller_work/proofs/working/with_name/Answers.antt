use Rattle.std.proofs.Common.{◌∙◌, ap, subst}
use Rattle.skk_calls.specs.States.{State}
use Rattle.learned_store.specs.Stands.{left_behind, RecoverAmong}
use Rattle.learned_store.specs.Stores.{OpenStore}
use Rattle.caller_work.specs.Closings.{closes}
use Rattle.caller_work.proofs.working.with_name.Goals as goal

pub returns-in-Ok-clause-closes : goal.returns-in-Ok-clause-closes
returns-in-Ok-clause-closes g c =
    let D = g.D.Disk in
    let close = c.close-closed.ensures in
    let left = c.work-left.new.caller in
    let opening = g.N.OpeningName.opening in
    rw (close.chronicle, close.disk) (closes D opening g.N.LearnedName.past c.args.store left.store left.notes
    c.close-closed.result.tally c.requires.named c.requires.past close.stands
    (subst (λ (s : State). RecoverAmong s (left_behind opening.state left.notes)
    (D.left_since left.store.journal.disk (D.time left.store.journal.disk))) close.stands.state close.now)
    close.since close.tally)

pub returns-in-Err-clause-back : goal.returns-in-Err-clause-back
returns-in-Err-clause-back g c =
    c.close.ensures ∙ ap (λ (s : OpenStore g.row.D.Denot). s.journal.disk) c.in-Err.ensures.back
