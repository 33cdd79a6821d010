use Rattle.skk_top.proofs.Disks.{stands-quiet}
use Rattle.skk_top.proofs.ask_command.run_ask.Goals as goal

-- no call is made, and the disk is not touched
pub returns-clause-stands : goal.returns-clause-stands
returns-clause-stands g c =
    let D = g.D.Disk in
    stands-quiet D c.args.disk (g.met.D.Disk.earlier c.args.disk) _ c.without_calls.result c.without_calls.ensures
