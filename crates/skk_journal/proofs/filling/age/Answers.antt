use Rattle.std.proofs.Common.{List, ℕ, subst}
use Rattle.std.proofs.lemmas.Result.{on_ok_weaker}
use Rattle.skk_disk.specs.Steps.{IsPlaced}
use Rattle.skk_disk.specs.StepLaws.{weaker}
use Rattle.skk_journal.proofs.FirstBytes.{stray_torn, stray_placed}
use Rattle.skk_journal.proofs.filling.age.Goals as goal

pub returns-clause-images : goal.returns-clause-images
returns-clause-images g c newest = weaker _ _ _ _ _ (stray_torn newest _) c.write_through.ensures.images

pub returns-clause-ok : goal.returns-clause-ok
returns-clause-ok g c =
    on_ok_weaker c.write_through.result
    (λ placed newest. weaker _ _ _ _ _ (λ old new whole. stray_placed newest c.args.generation old new
    (subst (λ (bytes : List ℕ). IsPlaced 9 bytes old new) c.aged_piece-piece.ensures whole)) placed)
    c.write_through.ensures.placed
