use Rattle.std.proofs.Common.{◌∙◌, ap, inr, subst, ℕ, List, []}
use Rattle.skk_calls.specs.Openings.{said_in}
use Rattle.skk_top.specs.ShareCommand.{SharesOut}
use Rattle.skk_outside.specs.Moved.{moved_sink}
use Rattle.learned_store.specs.Stores.{opening_now}
use Rattle.caller_work.specs.Disks.{disk_now}
use Rattle.skk_top.proofs.Disks.{runs-quiet}
use Rattle.skk_top.proofs.Shares.{list-closed}
use Rattle.skk_top.proofs.share_command.share_by_one.Goals as goal

-- a list that was given
pub returns-in-Ok-clause-leaves : goal.returns-in-Ok-clause-leaves
returns-in-Ok-clause-leaves g c =
    let D = g.D.Disk in
    let closed = c.in-Ok.worked.closed in
    let worked = c.in-Ok.ensures in
    inr (rw c.end_by.ensures (list-closed c.args.options.now (opening_now D c.args.store)
    c.in-Ok.worked.left closed.chronicle closed.disk closed.tally
    (moved_sink g.O.Outside c.args.out.now c.with_caller.new.outside) (disk_now D closed.disk)
    (subst (λ (books : List ℕ). SharesOut c.args.options.now.typist books c.in-Ok.worked.left []
    (said_in closed.chronicle 0) (moved_sink g.O.Outside c.args.out.now c.with_caller.new.outside)) c.copied.ensures
    worked.leaves)
    worked.closes.legal worked.one worked.closes.kept worked.closes.tally_is))

-- and one for which there was no memory
pub returns-in-Err-clause-runs : goal.returns-in-Err-clause-runs
returns-in-Err-clause-runs g c =
    let D = g.D.Disk in
    runs-quiet D c.args.store.state c.args.store.journal.disk _ c.without_calls.result
    (c.without_calls.ensures
    ∙ ap (λ (d : g.row.D.Denot). record { ended = _; chronicle = []; disk = d }) c.in-Err.ensures.back)
