use Rattle.std.proofs.Common.{◌++◌, ◌∷◌, []}
use Rattle.std.specs.Fmt.{decimal}
use Rattle.skk_text.specs.Lines.{line_feed}
use Rattle.run_endings.specs.PageLaws.{writes-stopped, writes-then}
use Rattle.run_endings.proofs.page.write_numbered_line.Goals as goal

pub returns-in_err-write_numbered : goal.returns-in_err-write_numbered
returns-in_err-write_numbered g c =
    writes-stopped (c.args.before.now ++ decimal c.args.number) (line_feed ∷ []) c.from_residual.result
    c.in_err-write_numbered.field-0.0 _ c.from_residual.ensures.1 c.in_err-write_numbered.ensures

pub returns : goal.returns
returns g c =
    writes-then (c.args.before.now ++ decimal c.args.number) (line_feed ∷ []) c.write_through.result
    c.in_ok-write_numbered.ensures c.write_through.ensures
