use Rattle.std.proofs.Common.{[], ◌∷◌, ◌++◌}
use Rattle.std.proofs.lemmas.Result.{on_ok_weaker, on_err_weaker}
use Rattle.skk_disk.specs.MomentLaws.{each_within}
use Rattle.learned_store.specs.Stores.{RecoversOneOf, with_doubt}
use Rattle.learned_store.specs.DoubtLaws.{on_err, doubt_more, either_more, doubt_stays, doubt_is_after}
use Rattle.batch_store.proofs.Added.{all_at}
use Rattle.batch_store.proofs.committing.commit_behind.Goals as goal

pub returns-in_err-settle-clause-err : goal.returns-in_err-settle-clause-err
returns-in_err-settle-clause-err g c = on_err c.from_residual.result (λ state after doubt added group adds keeps.
    doubt_stays g.D.Disk c.settle.new.journal state after doubt (c.in_err-settle.ensures.keeps state doubt keeps))

pub returns-in_err-settle-clause-images : goal.returns-in_err-settle-clause-images
returns-in_err-settle-clause-images g c state after doubt added group adds keeps image left =
    doubt_more state after doubt image (c.settle.ensures.images state doubt keeps image left)

pub returns-clause-ok : goal.returns-clause-ok
returns-clause-ok g c = on_ok_weaker c.add.result
    (λ keeps_on. λ state after doubt added group adds keeps.
    keeps_on state after added group (all_at added state after c.in_ok-settle.ensures.version adds)
    (c.in_ok-settle.ensures.keeps state doubt keeps))
    c.add.ensures.ok

pub returns-clause-err : goal.returns-clause-err
returns-clause-err g c = on_err_weaker c.add.result
    (λ keeps_on. λ state after doubt added group adds keeps.
    doubt_is_after g.D.Disk c.add.new.journal state after doubt
    (keeps_on state after added group (all_at added state after c.in_ok-settle.ensures.version adds)
    (c.in_ok-settle.ensures.keeps state doubt keeps)))
    c.add.ensures.err

pub returns-clause-images : goal.returns-clause-images
returns-clause-images g c state after doubt added group adds keeps =
    each_within _ _ _ _ _ _ c.in_ok-settle.ensures.advances.past c.add.ensures.advances.past
    (RecoversOneOf (with_doubt state doubt ++ after ∷ []))
    (λ image left. doubt_more state after doubt image (c.in_ok-settle.ensures.images state doubt keeps image left))
    (λ image left. either_more state after doubt image
    (c.add.ensures.images state after added group (all_at added state after c.in_ok-settle.ensures.version adds)
    (c.in_ok-settle.ensures.keeps state doubt keeps) image left))
