use Rattle.std.proofs.Common.{⊎_elim, [], ◌∷◌}
use Rattle.std.proofs.Common.{sym, subst, ◌∙◌}
use Rattle.std.specs.Prelude.{None, Some}
use Rattle.std.proofs.lemmas.Result.{on_ok_weaker, on_err_weaker}
use Rattle.skk_journal.specs.Images.{Opens, OpensEither}
use Rattle.skk_journal.specs.Journal.{OpenJournal, Rests}
use Rattle.learned_store.specs.DoubtLaws.{match_of, on_ok, never_err, first_is, second_is}
use Rattle.learned_store.proofs.committing.settle.Goals as goal

pub returns-clause-keeps : goal.returns-clause-keeps
returns-clause-keeps g c state None (newest, contents, left, rests) =
    let D = g.D.Disk in
    let calm = c.repair.ensures.calm rests.calm in
    match_of _ _ c.repair.result
    (on_ok c.repair.result (
      c.repair.ensures.newest ∙ newest,
      contents,
      left,
      subst (λ (j : OpenJournal _). Rests D j contents) (sym calm.1) rests,
    ))
    (never_err _ c.repair.result calm.0)
returns-clause-keeps g c state (Some doubted) (newest, contents, others, left, leave, in_doubt) =
    let still = c.repair.ensures.newest ∙ newest in
    match_of _ _ c.repair.result
    (on_ok_weaker c.repair.result (λ rests. (still, contents, left, rests contents others in_doubt))
    c.repair.ensures.ok)
    (on_err_weaker c.repair.result
    (λ doubts. (still, contents, others, left, leave, doubts contents others in_doubt)) c.repair.ensures.err)

pub returns-clause-images : goal.returns-clause-images
returns-clause-images g c state None (newest, contents, left, rests) image is = (
  state,
  first_is state [],
  (
    contents,
    subst (λ n. Opens n contents image) newest (c.repair.ensures.rests contents rests image is),
    left,
  ),
)
returns-clause-images g c state (Some doubted) (newest, contents, others, left, leave, in_doubt) image is = ⊎_elim
    (λ opens. (state, first_is state (doubted ∷ []), (contents, opens, left)))
    (λ opens. (doubted, second_is state doubted [], (others, opens, leave)))
    (subst (λ n. OpensEither n contents others image) newest
    (c.repair.ensures.images contents others in_doubt image is))
