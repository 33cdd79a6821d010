use Rattle.std.proofs.Common.{◌++◌, ◌∷◌, [], codes}
use Rattle.skk_text.specs.Lines.{line_feed}
use Rattle.run_endings.specs.Status.{fault_words}
use Rattle.run_endings.specs.PageLaws.{writes-stopped, writes-then}
use Rattle.run_endings.proofs.fault.RunFault.tell.Goals as goal

pub returns-in_err-tell_head : goal.returns-in_err-tell_head
returns-in_err-tell_head g c =
    writes-stopped (codes "skk: " ++ fault_words c.args.self) (line_feed ∷ []) c.from_residual.result
    c.in_err-tell_head.field-0.0 _ c.from_residual.ensures.1 c.in_err-tell_head.ensures

pub returns : goal.returns
returns g c =
    writes-then (codes "skk: " ++ fault_words c.args.self) (line_feed ∷ []) c.write.result
    c.in_ok-tell_head.ensures c.write.ensures
