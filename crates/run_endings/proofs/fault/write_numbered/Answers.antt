use Rattle.std.proofs.Common.{◌≡◌, ◌∙◌}
use Rattle.std.specs.Fmt.{decimal}
use Rattle.run_endings.specs.PageLaws.{writes-stopped, writes-then}
use Rattle.run_endings.proofs.fault.write_numbered.Goals as goal

pub returns-in_err-write : goal.returns-in_err-write
returns-in_err-write g c =
    writes-stopped c.args.before.now (decimal c.args.number) c.from_residual.result c.in_err-write.field-0.0 _
    c.from_residual.ensures.1 c.in_err-write.ensures

pub returns : goal.returns
returns g c =
    let digits : c.as_bytes.result.now ≡ decimal c.args.number = c.as_bytes.ensures.value ∙ c.format.ensures.text in
    writes-then c.args.before.now (decimal c.args.number) c.write-2.result c.in_ok-write.ensures
    (rw digits at c.write-2.ensures)
