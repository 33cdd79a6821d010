use Rattle.skk_outside.specs.Moved.{moved_shelf, moved_source, moved_sink}
use Rattle.skk_top.specs.Commands.{StandsAlone}
use Rattle.skk_top.specs.Disks.{moved_disk}
use Rattle.skk_top.proofs.Causes.{caused-alone, caused-outside}
use Rattle.skk_top.proofs.Disks.{stands-finish}
use Rattle.skk_top.proofs.alone.run_alone.Goals as goal

pub returns-clause-leaves : goal.returns-clause-leaves
returns-clause-leaves g c = rw c.end_run.ensures.finish c.run_command.ensures.leaves

pub returns-clause-caused : goal.returns-clause-caused
returns-clause-caused g c =
    let D = g.D.Disk in
    rw c.end_run.ensures.finish
    (caused-alone c.run_command.result (moved_shelf g.H.Shelf c.args.shelf.now c.run_command.new.shelf)
    (moved_source g.I.Outside c.args.input.now c.run_command.new.input)
    (moved_sink g.O.Outside c.args.out.now c.run_command.new.out) (moved_disk D c.args.disk c.run_command.result.disk) _
    (λ failed. failed) c.args.command.now c.run_command.ensures.leaves)

pub returns-clause-outside : goal.returns-clause-outside
returns-clause-outside g c is = caused-outside _ c.end_run.result.ended is (returns-clause-caused g c)

pub returns-clause-stands : goal.returns-clause-stands
returns-clause-stands g c =
    let D = g.D.Disk in
    let shelf = moved_shelf g.H.Shelf c.args.shelf.now c.run_command.new.shelf in
    stands-finish D (StandsAlone c.args.command.now shelf) c.args.disk c.run_command.result c.end_run.result
    c.end_run.ensures.finish c.run_command.ensures.stands
