use Rattle.skk_outside.specs.Moved.{moved_sink}
use Rattle.skk_top.specs.ServeCommand.{ready_line}
use Rattle.run_endings.specs.declared.fault.RunFault.TheVariants.{Outside}
use Rattle.run_endings.specs.PageLaws.{printed-fault}
use Rattle.skk_top.proofs.serving.print_ready.Goals as goal

pub returns-in_err-write_through : goal.returns-in_err-write_through
returns-in_err-write_through g c =
    printed-fault ready_line c.from_residual.result Outside
    (moved_sink g.O.Outside c.args.out.now c.write_through.new.out) c.from_residual.ensures.1
    c.in_err-write_through.ensures.prefix c.in_err-write_through.ensures.failed c.in_err-write_through.ensures.counted
