use Rattle.std.proofs.Common.{List, ℕ, length, subst}
use Rattle.std.proofs.lemmas.Result.{on_ok_weaker}
use Rattle.skk_disk.specs.Steps.{IsPlaced}
use Rattle.skk_disk.specs.StepLaws.{weaker}
use Rattle.skk_journal.proofs.Gates.{stage_torn, stage_placed}
use Rattle.skk_journal.proofs.steps.write_behind.Goals as goal

pub returns-clause-images : goal.returns-clause-images
returns-clause-images g c =
    weaker _ _ _ _ _ (λ old new torn newest generation contents end_is from.
    stage_torn newest generation contents (length c.args.piece.now) c.args.end old new end_is from torn)
    c.write_through.ensures.images

pub returns-clause-ok : goal.returns-clause-ok
returns-clause-ok g c =
    on_ok_weaker c.write_through.result (λ placed added group.
    weaker _ _ _ _ _ (λ old new whole newest generation contents end_is from.
    stage_placed newest generation contents c.args.end added old new end_is group.addition from
    (subst (λ (bytes : List ℕ). IsPlaced c.args.end bytes old new) group.is whole)) placed)
    c.write_through.ensures.placed
