use Rattle.std.proofs.Common.{encode_utf8_all}
use Rattle.skk_outside.specs.Moved.{moved_sink}
use Rattle.run_endings.specs.declared.fault.RunFault.TheVariants.{Outside}
use Rattle.run_endings.specs.PageLaws.{printed-fault}
use Rattle.run_endings.proofs.page.print_text.Goals as goal

pub returns-in_err-print_through : goal.returns-in_err-print_through
returns-in_err-print_through g c =
    printed-fault (encode_utf8_all c.args.text.now) c.from_residual.result Outside
    (moved_sink g.O.Outside c.args.out.now c.print_through.new.out)
    c.from_residual.ensures.1 c.in_err-print_through.ensures.prefix c.in_err-print_through.ensures.failed
    c.in_err-print_through.ensures.counted
