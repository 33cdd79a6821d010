use Rattle.std.proofs.Common.{◌≡◌, ◌≤◌, ◌∙◌, [], ap, sym, subst, inl, inr, ℕ}
use Rattle.skk_outside.specs.Moved.{moved_sink}
use Rattle.skk_journal.specs.Journal.{OpenJournal}
use Rattle.learned_store.specs.declared.parts.Parts.{Parts}
use Rattle.learned_store.specs.Stores.{OpenStore, opening_now}
use Rattle.run_endings.specs.declared.finish.Run.{Run}
use Rattle.skk_top.specs.ImportCommand.{TellsImport}
use Rattle.skk_top.proofs.Disks.{runs-quiet}
use Rattle.skk_top.proofs.Imports.{faults-counted, learns-closed, learns-over, notes-again, store-again}
use Rattle.skk_top.proofs.import_command.import_over.Goals as goal

-- the candidates were learnt
pub returns-in-Ok-clause-leaves : goal.returns-in-Ok-clause-leaves
returns-in-Ok-clause-leaves g c =
    let D = g.D.Disk in
    let out = moved_sink g.O.Outside c.args.out.now c.end_import.new.out in
    let old = c.in-Ok.batch in
    let closed = c.close-closed.result in
    let again : old.store ≡ c.args.store =
    c.in-Ok.ensures.store
    ∙ store-again c.args.store c.into_parts.result c.into_parts.ensures.index c.into_parts.ensures.system
    c.into_parts.ensures.journal c.into_parts.ensures.limit in
    inr (learns-closed D (opening_now D c.args.store) c.args.number c.args.book.now old c.import-done.new.batch
    (notes-again D old c.args.store c.into_parts.result c.in-Ok.ensures.store c.in-Ok.ensures.notes again) closed out
    c.end_import.result c.import-done.result (ap (λ (s : OpenStore g.row.D.Denot). s.state) again)
    (ap (λ (s : OpenStore g.row.D.Denot). D.faults s.journal.disk) again) c.import-done.ensures
    c.close-closed.ensures.disk c.close-closed.ensures.chronicle c.close-closed.ensures.entered
    (subst (λ (count : ℕ). TellsImport c.import-done.result count c.end_import.result out) c.learned.ensures
    c.end_import.ensures.tells))

pub returns-in-Ok-clause-stands : goal.returns-in-Ok-clause-stands
returns-in-Ok-clause-stands g c =
    let D = g.D.Disk in
    let old = c.in-Ok.batch in
    let new = c.import-done.new.batch in
    let again : old.store ≡ c.args.store =
    c.in-Ok.ensures.store
    ∙ store-again c.args.store c.into_parts.result c.into_parts.ensures.index c.into_parts.ensures.system
    c.into_parts.ensures.journal c.into_parts.ensures.limit in
    inr (learns-over D c.args.number c.args.book.now old new c.args.store again
    (notes-again D old c.args.store c.into_parts.result c.in-Ok.ensures.store c.in-Ok.ensures.notes again)
    c.requires.calm c.import-done.result c.import-done.ensures c.close-closed.result c.close-closed.ensures.disk
    c.close-closed.ensures.chronicle)

pub returns-in-Ok-clause-disk_counted : goal.returns-in-Ok-clause-disk_counted
returns-in-Ok-clause-disk_counted g c =
    let D = g.D.Disk in
    let old = c.in-Ok.batch in
    let again : old.store ≡ c.args.store =
    c.in-Ok.ensures.store
    ∙ store-again c.args.store c.into_parts.result c.into_parts.ensures.index c.into_parts.ensures.system
    c.into_parts.ensures.journal c.into_parts.ensures.limit in
    subst (λ (d : g.row.D.Denot). D.faults c.args.store.journal.disk ≤ D.faults d) (sym c.close-closed.ensures.disk)
    (faults-counted D (opening_now D c.args.store) c.args.number c.args.book.now old c.import-done.new.batch
    (notes-again D old c.args.store c.into_parts.result c.in-Ok.ensures.store c.in-Ok.ensures.notes again)
    c.import-done.result c.import-done.ensures c.close-closed.ensures.entered.1)

-- there was no memory to begin
pub returns-in-Err-clause-stands : goal.returns-in-Err-clause-stands
returns-in-Err-clause-stands g c =
    let D = g.D.Disk in
    let same =
    c.close.ensures ∙ ap (λ (parts : Parts g.row.D.Denot). parts.journal.disk) c.in-Err.ensures.back
    ∙ ap (λ (journal : OpenJournal g.row.D.Denot). journal.disk) c.into_parts.ensures.journal in
    inl (
      ap (λ (run : Run g.row.D.Denot). run.chronicle) c.without_calls.ensures,
      runs-quiet D c.args.store.state c.args.store.journal.disk _ c.without_calls.result
          (c.without_calls.ensures
          ∙ ap (λ (d : g.row.D.Denot). record { ended = _; chronicle = []; disk = d }) same),
    )
