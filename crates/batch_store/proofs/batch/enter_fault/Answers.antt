use Rattle.std.proofs.Common.{◌≡◌, ◌++◌, List, sym, subst}
use Rattle.skk_calls.specs.declared.chronicle.Noted.{Noted}
use Rattle.batch_store.specs.declared.group_fault.GroupFault.{GroupFault}
use Rattle.batch_store.specs.Entries.{entered_at, fault_answers}
use Rattle.batch_store.proofs.EnteredLaws.{nothing_entered}
use Rattle.batch_store.proofs.batch.enter_fault.Goals as goal

-- where memory was out nothing is entered
pub returns-in-Memory-clause-notes : goal.returns-in-Memory-clause-notes
returns-in-Memory-clause-notes g c =
    let notes : List Noted = c.args.entries.now.trace in
    let disk = c.args.parts.now.journal.disk in
    subst (λ (fault : GroupFault). notes ≡ notes ++ entered_at g.D.Disk c.args.parts.now c.args.calls.now
    (fault_answers c.args.calls.now c.args.plans.now fault)) (sym c.in-Memory.is)
    (nothing_entered notes (g.D.Disk.time disk) (g.D.Disk.faults disk) c.args.calls.now)
