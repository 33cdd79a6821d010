use Rattle.skk_top.proofs.Disks.{stands-quiet}
use Rattle.skk_top.proofs.alone.run_command.Goals as goal

-- a check makes no call, and does not touch the disk
pub returns-in-Check-clause-stands : goal.returns-in-Check-clause-stands
returns-in-Check-clause-stands g c =
    let D = g.D.Disk in
    let run = c.run_check.result in
    rw c.in-Check.is (stands-quiet D c.args.disk (g.met.D.Disk.earlier c.args.disk) run.ended run (λ i. record {
      ended = run.ended;
      chronicle = c.run_check.ensures.uncalled i;
      disk = c.run_check.ensures.disk i;
    }))

-- nor does what puts dictionaries together
pub returns-in-Expr-clause-stands : goal.returns-in-Expr-clause-stands
returns-in-Expr-clause-stands g c =
    let D = g.D.Disk in
    let run = c.run_expr.result in
    rw c.in-Expr.is (stands-quiet D c.args.disk (g.met.D.Disk.earlier c.args.disk) run.ended run (λ i. record {
      ended = run.ended;
      chronicle = c.run_expr.ensures.uncalled i;
      disk = c.run_expr.ensures.disk i;
    }))
