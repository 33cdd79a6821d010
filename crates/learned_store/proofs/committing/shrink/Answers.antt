use Rattle.skk_journal.specs.Contents.{Contents}
use Rattle.std.proofs.Common.{⊎_elim, [], ◌∷◌, sym, subst, ◌∙◌}
use Rattle.std.specs.Prelude.{None, Some}
use Rattle.std.proofs.lemmas.Result.{on_ok_weaker, on_err_weaker}
use Rattle.skk_journal.specs.Images.{OpensEither}
use Rattle.learned_store.specs.Payloads.{newest_version}
use Rattle.learned_store.specs.Recovered.{Leave}
use Rattle.learned_store.specs.DoubtLaws.{match_of, first_is, second_is}
use Rattle.learned_store.proofs.committing.shrink.Goals as goal

pub returns-clause-keeps : goal.returns-clause-keeps
returns-clause-keeps g c state (tight, sized, is, leave) (newest, contents, left, rests) =
    let still = c.compact.ensures.newest ∙ newest in
    let new : Contents = record { version = c.args.journal.now.newest; records = tight } in
    let leaves = subst (λ n. Leave (record { version = n; records = tight }) state) (sym newest) leave in
    match_of _ _ c.compact.result
    (on_ok_weaker c.compact.result (λ after. (still, new, leaves, after contents tight sized is rests))
    c.compact.ensures.ok)
    (on_err_weaker c.compact.result
    (λ after. ⊎_elim
    (λ same. (None, first_is None (Some state ∷ []), (still, contents, left, same)))
    (λ doubts. (Some state, second_is None (Some state) [], (still, contents, new, left, leaves, doubts)))
    (after contents tight sized is rests))
    c.compact.ensures.err)

pub returns-clause-images : goal.returns-clause-images
returns-clause-images g c state (tight, sized, is, leave) (newest, contents, left, rests) image at = ⊎_elim
    (λ opens. (state, first_is state [], (contents, opens, left)))
    (λ opens. (state, first_is state [], (record { version = newest_version; records = tight }, opens, leave)))
    (subst (λ n. OpensEither n contents (record { version = n; records = tight }) image) newest
    (c.compact.ensures.images contents tight sized is rests image at))
