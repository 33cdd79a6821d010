use Rattle.std.proofs.Common.{◌∙◌, ap, inr, []}
use Rattle.skk_outside.specs.Moved.{moved_sink}
use Rattle.learned_store.specs.Stores.{opening_now}
use Rattle.caller_work.specs.Disks.{disk_now}
use Rattle.skk_top.proofs.Disks.{runs-quiet}
use Rattle.skk_top.proofs.Runs.{types-closed}
use Rattle.skk_top.proofs.one_caller.type_by_one.Goals as goal

-- a script that was typed
pub returns-in-Ok-clause-leaves : goal.returns-in-Ok-clause-leaves
returns-in-Ok-clause-leaves g c =
    let D = g.D.Disk in
    let closed = c.in-Ok.worked.closed in
    let worked = c.in-Ok.ensures in
    inr (rw c.end_by.ensures (types-closed (opening_now D c.args.begun.store) c.args.begun.rules c.args.begun.script
    c.in-Ok.worked.left closed.chronicle closed.disk closed.tally
    (moved_sink g.O.Outside c.args.out.now c.with_caller.new.outside) (disk_now D closed.disk) worked.leaves
    worked.closes.legal worked.one worked.closes.kept worked.closes.tally_is))

-- and one for which there was no memory
pub returns-clause-runs : goal.returns-clause-runs
returns-clause-runs g c =
    let D = g.D.Disk in
    runs-quiet D c.args.begun.store.state c.args.begun.store.journal.disk _ c.without_calls.result
    (c.without_calls.ensures
    ∙ ap (λ (d : g.row.D.Denot). record { ended = _; chronicle = []; disk = d }) c.in-Err.ensures.back)
