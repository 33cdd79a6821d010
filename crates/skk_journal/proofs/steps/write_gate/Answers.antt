use Rattle.std.proofs.lemmas.Result.{on_ok_weaker}
use Rattle.skk_disk.specs.StepLaws.{weaker}
use Rattle.skk_journal.proofs.Gates.{gate_torn, gate_placed}
use Rattle.skk_journal.proofs.steps.write_gate.Goals as goal

pub returns-clause-images : goal.returns-clause-images
returns-clause-images g c =
    weaker _ _ _ _ _ (λ old new torn newest generation contents added at_is from.
    gate_torn newest generation contents c.args.at added old new at_is from torn)
    c.write_through.ensures.images

pub returns-clause-ok : goal.returns-clause-ok
returns-clause-ok g c =
    on_ok_weaker c.write_through.result
    (weaker _ _ _ _ _ (λ old new whole newest generation contents added at_is from.
    gate_placed newest generation contents c.args.at c.args.gate added old new at_is from whole))
    c.write_through.ensures.placed
