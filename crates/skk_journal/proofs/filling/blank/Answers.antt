use Rattle.skk_disk.specs.StepLaws.{within, then}
use Rattle.skk_journal.proofs.filling.blank.Goals as goal

pub returns-clause-images : goal.returns-clause-images
returns-clause-images g c newest =
    within _ _ _ _ _ _ _ c.bring_nearer.ensures.advances.past c.bring_nearer-2.ensures.advances.past _ _ _ _
    (λ old new makes. makes) (λ old between new known makes is. makes (known is))
    (c.bring_nearer.ensures.images newest) (c.bring_nearer.ensures.known newest)
    (c.bring_nearer-2.ensures.images newest)

pub returns-clause-known : goal.returns-clause-known
returns-clause-known g c newest =
    then _ _ _ _ _ _ _ (λ old between new known makes is. makes (known is))
    (c.bring_nearer.ensures.known newest) (c.bring_nearer-2.ensures.known newest)
