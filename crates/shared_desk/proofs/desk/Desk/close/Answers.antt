use Rattle.std.proofs.Common.{◌∙◌, ap, sym, subst, List, All}
use Rattle.skk_calls.specs.declared.chronicle.Noted.{Noted}
use Rattle.skk_calls.specs.Chronicles.{history_of}
use Rattle.skk_calls.specs.Histories.{state_after}
use Rattle.skk_calls.specs.States.{State}
use Rattle.desk_history.specs.Seats.{PenState}
use Rattle.learned_store.specs.Stands.{Stands, StandsOver, RecoverAmong, left_behind}
use Rattle.shared_desk.specs.Told.{Stood}
use Rattle.shared_desk.proofs.desk.Desk.close.Goals as goal

pub returns-clause-slips : goal.returns-clause-slips
returns-clause-slips g c =
    subst (λ h. All (Stood h) c.args.slips)
    (ap (λ (p : PenState). p.seen) c.noting.invariant ∙ ap history_of (sym c.close.ensures.chronicle))
    c.end_callers.ensures.slips

pub returns-clause-stands : goal.returns-clause-stands
returns-clause-stands g c =
    let store = c.noting.inside.noting.store in (
      store,
      c.close.ensures.disk,
      subst (λ (n : List Noted). Stands g.D.Disk
          g.N.OpeningName.opening g.N.LearnedName.past n store) (sym c.close.ensures.chronicle)
          c.close.ensures.stands,
    )

pub returns-clause-now : goal.returns-clause-now
returns-clause-now g c =
    let opened = g.N.OpeningName.opening.state in
    let notes = c.noting.inside.noting.notes in
    let disk = c.noting.inside.noting.store.journal.disk in
    let at_state =
    subst (λ (s : State). RecoverAmong s (left_behind opened notes) (g.D.Disk.left_since disk (g.D.Disk.time disk)))
    c.close.ensures.stands.state c.close.ensures.now in
    subst (λ (d : g.row.D.Denot). RecoverAmong (state_after opened (history_of c.close.result.chronicle))
    (left_behind opened c.close.result.chronicle) (g.D.Disk.left_since d (g.D.Disk.time d)))
    (sym c.close.ensures.disk)
    (subst (λ (n : List Noted). RecoverAmong (state_after opened (history_of n)) (left_behind opened n)
    (g.D.Disk.left_since disk (g.D.Disk.time disk))) (sym c.close.ensures.chronicle) at_state)

pub returns-clause-since : goal.returns-clause-since
returns-clause-since g c start past =
    let D = g.D.Disk in
    let opened = g.N.OpeningName.opening.state in
    let disk = c.noting.inside.noting.store.journal.disk in
    subst (λ (d : g.row.D.Denot). StandsOver opened c.close.result.chronicle start (D.time d) (D.left_since d))
    (sym c.close.ensures.disk)
    (subst (λ (n : List Noted). StandsOver opened n start (D.time disk) (D.left_since disk))
    (sym c.close.ensures.chronicle) (c.close.ensures.since start past))
