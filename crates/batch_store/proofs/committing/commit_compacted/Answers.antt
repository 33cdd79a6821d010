use Rattle.std.proofs.Common.{[], ◌∷◌, ◌++◌, ◌∙◌}
use Rattle.std.proofs.lemmas.Result.{on_ok_weaker, on_err_weaker}
use Rattle.skk_disk.specs.MomentLaws.{each_within}
use Rattle.skk_disk.specs.RunLaws.{advances_on}
use Rattle.learned_store.specs.Stores.{RecoversOneOf, with_doubt}
use Rattle.learned_store.specs.DoubtLaws.{on_err, doubt_more, state_more, either_more}
use Rattle.learned_store.specs.DoubtLaws.{doubt_stays, doubt_is_state, doubt_is_after}
use Rattle.batch_store.proofs.Added.{all_at}
use Rattle.batch_store.proofs.committing.commit_compacted.Goals as goal

pub returns-in_err-settle-clause-err : goal.returns-in_err-settle-clause-err
returns-in_err-settle-clause-err g c = on_err c.from_residual.result (λ state after doubt added group adds is keeps.
    doubt_stays g.D.Disk c.settle.new.journal state after doubt (c.in_err-settle.ensures.keeps state doubt keeps))

pub returns-in_err-settle-clause-images : goal.returns-in_err-settle-clause-images
returns-in_err-settle-clause-images g c state after doubt added group adds is keeps image left =
    doubt_more state after doubt image (c.settle.ensures.images state doubt keeps image left)

pub returns-in_err-shrink-clause-err : goal.returns-in_err-shrink-clause-err
returns-in_err-shrink-clause-err g c = on_err c.from_residual-in_err-shrink.result
    (λ state after doubt added group adds is keeps.
    doubt_is_state g.D.Disk c.shrink.new.journal state after doubt
    (c.in_err-shrink.ensures.keeps state is (c.in_ok-settle.ensures.keeps state doubt keeps)))

pub returns-in_err-shrink-clause-images : goal.returns-in_err-shrink-clause-images
returns-in_err-shrink-clause-images g c state after doubt added group adds is keeps =
    each_within _ _ _ _ _ _ c.in_ok-settle.ensures.advances.past c.shrink.ensures.advances.past
    (RecoversOneOf (with_doubt state doubt ++ after ∷ []))
    (λ image left. doubt_more state after doubt image (c.in_ok-settle.ensures.images state doubt keeps image left))
    (λ image left. state_more state after doubt image
    (c.shrink.ensures.images state is (c.in_ok-settle.ensures.keeps state doubt keeps) image left))

pub returns-clause-ok : goal.returns-clause-ok
returns-clause-ok g c = on_ok_weaker c.add.result
    (λ keeps_on. λ state after doubt added group adds is keeps.
    let settled = c.in_ok-settle.ensures.keeps state doubt keeps in
    keeps_on state after added group
    (all_at added state after (c.in_ok-shrink.ensures.version ∙ settled.0) adds)
    (c.in_ok-shrink.ensures.keeps state is settled))
    c.add.ensures.ok

pub returns-clause-err : goal.returns-clause-err
returns-clause-err g c = on_err_weaker c.add.result
    (λ keeps_on. λ state after doubt added group adds is keeps.
    let settled = c.in_ok-settle.ensures.keeps state doubt keeps in
    doubt_is_after g.D.Disk c.add.new.journal state after doubt
    (keeps_on state after added group
    (all_at added state after (c.in_ok-shrink.ensures.version ∙ settled.0) adds)
    (c.in_ok-shrink.ensures.keeps state is settled)))
    c.add.ensures.err

pub returns-clause-images : goal.returns-clause-images
returns-clause-images g c state after doubt added group adds is keeps =
    let settled = c.in_ok-settle.ensures.keeps state doubt keeps in
    each_within _ _ _ _ _ _ (advances_on g.D.Disk _ _ _ c.in_ok-settle.ensures.advances c.in_ok-shrink.ensures.advances
    (g.met.D.Disk.earlier c.shrink.new.journal.disk)).past c.add.ensures.advances.past
    (RecoversOneOf (with_doubt state doubt ++ after ∷ []))
    (each_within _ _ _ _ _ _ c.in_ok-settle.ensures.advances.past c.in_ok-shrink.ensures.advances.past
    (RecoversOneOf (with_doubt state doubt ++ after ∷ []))
    (λ image left. doubt_more state after doubt image (c.in_ok-settle.ensures.images state doubt keeps image left))
    (λ image left. state_more state after doubt image
    (c.in_ok-shrink.ensures.images state is settled image left)))
    (λ image left. either_more state after doubt image
    (c.add.ensures.images state after added group
    (all_at added state after (c.in_ok-shrink.ensures.version ∙ settled.0) adds)
    (c.in_ok-shrink.ensures.keeps state is settled) image left))
