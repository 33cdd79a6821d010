use Rattle.std.proofs.Common.{◌++◌, ◌∷◌, []}
use Rattle.std.specs.Fmt.{decimal}
use Rattle.skk_outside.specs.Moved.{moved_sink}
use Rattle.skk_text.specs.Lines.{line_feed}
use Rattle.run_endings.specs.declared.fault.RunFault.TheVariants.{Outside}
use Rattle.run_endings.specs.PageLaws.{printed-fault}
use Rattle.run_endings.proofs.page.print_numbered.Goals as goal

pub returns-in_err-write_numbered_line : goal.returns-in_err-write_numbered_line
returns-in_err-write_numbered_line g c =
    printed-fault ((c.args.before.now ++ decimal c.args.number) ++ line_feed ∷ []) c.from_residual.result Outside
    (moved_sink g.O.Outside c.args.out.now c.write_numbered_line.new.out) c.from_residual.ensures.1
    c.in_err-write_numbered_line.ensures.prefix c.in_err-write_numbered_line.ensures.failed
    c.in_err-write_numbered_line.ensures.counted
