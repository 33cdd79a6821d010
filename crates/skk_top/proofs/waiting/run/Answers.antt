use Rattle.std.proofs.Common.{inl, inr}
use Rattle.skk_outside.specs.Moved.{moved_shelf, moved_source, moved_sink}
use Rattle.skk_top.specs.Disks.{moved_disk, StandsSince}
use Rattle.skk_top.specs.ServeCommand.{moved_listener}
use Rattle.skk_top.proofs.Causes.{caused-waiting, caused-outside}
use Rattle.skk_top.proofs.Disks.{stands-finish}
use Rattle.skk_top.proofs.waiting.run.Goals as goal

pub returns-clause-leaves : goal.returns-clause-leaves
returns-clause-leaves g c = rw c.end_run.ensures.finish c.run_command-run.ensures.leaves

pub returns-clause-caused : goal.returns-clause-caused
returns-clause-caused g c =
    let D = g.D.Disk in
    let new = c.run_command-run.new in
    rw c.end_run.ensures.finish
    (caused-waiting c.run_command-run.result (moved_shelf g.H.Shelf c.args.shelf.now new.shelf)
    (moved_source g.I.Outside c.args.input.now new.input) (moved_sink g.O.Outside c.args.out.now new.out)
    (moved_disk D c.args.disk c.run_command-run.result.disk) _ inl (moved_listener g.N.Listener g.N.Link.Outside
    c.args.net.now
    new.net) (λ rose. inr (inl rose)) c.args.command.now (λ failed. inr (inr failed))
    c.run_command-run.ensures.leaves)

pub returns-clause-outside : goal.returns-clause-outside
returns-clause-outside g c is = caused-outside _ c.end_run.result.ended is (returns-clause-caused g c)

pub returns-clause-stands : goal.returns-clause-stands
returns-clause-stands g c =
    let D = g.D.Disk in
    stands-finish D StandsSince c.args.disk c.run_command-run.result c.end_run.result c.end_run.ensures.finish
    c.run_command-run.ensures.stands
