use Rattle.std.proofs.Common.{codes}
use Rattle.run_endings.specs.Status.{fault_words}
use Rattle.run_endings.specs.PageLaws.{writes-stopped, writes-then}
use Rattle.run_endings.proofs.fault.RunFault.tell_head.Goals as goal

pub returns-in_err-write : goal.returns-in_err-write
returns-in_err-write g c =
    writes-stopped (codes "skk: ") (fault_words c.args.self) c.from_residual.result c.in_err-write.field-0.0 _
    c.from_residual.ensures.1 c.in_err-write.ensures

pub returns : goal.returns
returns g c =
    writes-then (codes "skk: ") (fault_words c.args.self) c.tell_words.result c.in_ok-write.ensures c.tell_words.ensures
