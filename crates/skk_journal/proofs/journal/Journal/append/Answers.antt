use Rattle.std.proofs.Common.{◌∷◌, ◌++◌, [], inl, refl, sym, subst, arith, length-append}
use Rattle.skk_journal.specs.Records.{body}
use Rattle.skk_journal.specs.Journal.{OpenJournal, Rests}
use Rattle.skk_journal.specs.JournalLaws.{rests_open}
use Rattle.skk_journal.specs.RecordLaws.{length-record_bytes, end_of-added, group_of_one}
use Rattle.skk_journal.proofs.Results.{on_err}
use Rattle.skk_journal.proofs.JournalSteps.{adding_opens, adding_failed, adding_rests}
use Rattle.skk_journal.proofs.journal.Journal.append.Goals as goal

pub returns-in_err-check_room-clause-images : goal.returns-in_err-check_room-clause-images
returns-in_err-check_room-clause-images g c contents rests image left =
    inl (rests_open _ _ contents rests image left)

pub returns-in_err-add_record-clause-err : goal.returns-in_err-add_record-clause-err
returns-in_err-add_record-clause-err g c = on_err c.from_residual-in_err-add_record.result (λ contents rests.
    let D = g.D.Disk in
    let start = subst (λ (j : OpenJournal _). Rests D j contents) (sym c.self.view_is) rests in
    let payload = c.args.payload.now in
    adding_failed D _ contents start (payload ∷ []) _ _
    c.in_err-add_record.ensures.err)

pub returns-in_err-add_record-clause-images : goal.returns-in_err-add_record-clause-images
returns-in_err-add_record-clause-images g c = rw (← c.self.view_is) (λ contents start.
    let payload = c.args.payload.now in
    adding_opens g.D.Disk _ contents start (payload ∷ []) _ _
    c.add_record.ensures.images)

pub returns-clause-images : goal.returns-clause-images
returns-clause-images g c = rw (← c.self.view_is) (λ contents start.
    let payload = c.args.payload.now in
    adding_opens g.D.Disk _ contents start (payload ∷ []) _ _
    c.add_record.ensures.images)

pub returns-clause-ok : goal.returns-clause-ok
returns-clause-ok g c contents rests =
    let D = g.D.Disk in
    let start = subst (λ (j : OpenJournal _). Rests D j contents) (sym c.self.view_is) rests in
    let payload = c.args.payload.now in
    adding_rests D _ contents start (payload ∷ []) _ _ _
    (omega (
      arith,
      start.end,
      end_of-added contents.records (payload ∷ []) (body payload ++ 0 ∷ [])
          (group_of_one payload (body payload ++ 0 ∷ []) c.requires.sized refl),
      length-append (body payload) (0 ∷ []),
      length-record_bytes payload,
    ))
    c.in_ok-add_record.ensures.settled
    c.in_ok-add_record.ensures.ok
