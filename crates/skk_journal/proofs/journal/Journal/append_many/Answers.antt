use Rattle.std.proofs.Common.{inl, sym, subst, arith}
use Rattle.skk_journal.specs.Journal.{OpenJournal, Rests}
use Rattle.skk_journal.specs.JournalLaws.{rests_open}
use Rattle.skk_journal.specs.RecordLaws.{end_of-added}
use Rattle.skk_journal.proofs.Results.{on_err}
use Rattle.skk_journal.proofs.JournalSteps.{adding_opens, adding_failed, adding_rests}
use Rattle.skk_journal.proofs.journal.Journal.append_many.Goals as goal

pub returns-in_err-check_room-clause-images : goal.returns-in_err-check_room-clause-images
returns-in_err-check_room-clause-images g c contents added group rests image left =
    inl (rests_open _ _ contents rests image left)

pub returns-in_err-add_records-clause-err : goal.returns-in_err-add_records-clause-err
returns-in_err-add_records-clause-err g c =
    on_err c.from_residual-in_err-add_records.result (λ contents added group rests.
    let D = g.D.Disk in
    let start = subst (λ (j : OpenJournal _). Rests D j contents) (sym c.self.view_is) rests in
    adding_failed D _ contents start added _ _ (c.in_err-add_records.ensures.err added group))

pub returns-in_err-add_records-clause-images : goal.returns-in_err-add_records-clause-images
returns-in_err-add_records-clause-images g c = rw (← c.self.view_is) (λ contents added group start.
    adding_opens g.D.Disk _ contents start added _ _ (c.add_records.ensures.images added group))

pub returns-clause-images : goal.returns-clause-images
returns-clause-images g c = rw (← c.self.view_is) (λ contents added group start.
    adding_opens g.D.Disk _ contents start added _ _ (c.add_records.ensures.images added group))

pub returns-clause-ok : goal.returns-clause-ok
returns-clause-ok g c contents added group rests =
    let D = g.D.Disk in
    let start = subst (λ (j : OpenJournal _). Rests D j contents) (sym c.self.view_is) rests in
    adding_rests D _ contents start added _ _ _
    (omega (arith, start.end, end_of-added contents.records added c.args.records.now group))
    c.in_ok-add_records.ensures.settled (c.in_ok-add_records.ensures.ok added group)
