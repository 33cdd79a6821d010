use Rattle.std.proofs.Common.{◌++◌}
use Rattle.std.specs.Fmt.{decimal}
use Rattle.run_endings.specs.PageLaws.{writes-stopped, writes-then}
use Rattle.run_endings.specs.Status.{learned_words}
use Rattle.run_endings.proofs.fault.tell_learned.Goals as goal

pub returns-in_err-name_learned : goal.returns-in_err-name_learned
returns-in_err-name_learned g c =
    writes-stopped (learned_words c.args.file) (c.args.wrong.now ++ decimal c.args.number) c.from_residual.result
    c.in_err-name_learned.field-0.0 _ c.from_residual.ensures.1 c.in_err-name_learned.ensures

pub returns : goal.returns
returns g c =
    writes-then (learned_words c.args.file) (c.args.wrong.now ++ decimal c.args.number) c.write_numbered.result
    c.in_ok-name_learned.ensures c.write_numbered.ensures
