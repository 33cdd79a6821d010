use Rattle.std.proofs.Common.{⊎_elim, [], ◌∷◌, List, ℕ, sym, subst, ◌∙◌}
use Rattle.std.specs.Prelude.{None, Some}
use Rattle.skk_calls.specs.States.{State}
use Rattle.skk_disk.specs.Image.{Image}
use Rattle.skk_journal.specs.Contents.{Contents, with_added}
use Rattle.skk_journal.specs.Images.{OpensEither}
use Rattle.learned_store.specs.Payloads.{newest_version}
use Rattle.learned_store.specs.Stores.{RecoversOneOf}
use Rattle.learned_store.specs.Recovered.{Leave}
use Rattle.learned_store.specs.DoubtLaws.{first_is, second_is}
use Rattle.batch_store.proofs.committing.add.Goals as goal

-- an image that is opened with the contents, or with the added records more, is opened as one of the two states
opened : (state after : State) (added : List (List ℕ)) (contents : Contents) (image : Image) → Leave contents state
    → Leave (with_added contents added) after
    → OpensEither newest_version contents (with_added contents added) image
    → RecoversOneOf (state ∷ after ∷ []) image
opened state after added contents image left more either = ⊎_elim
    (λ opens. (state, first_is state (after ∷ []), (contents, opens, left)))
    (λ opens. (after, second_is state after [], (with_added contents added, opens, more)))
    either

pub returns-in-Ok-clause-images : goal.returns-in-Ok-clause-images
returns-in-Ok-clause-images g c state after added group adds (newest, contents, left, rests) image at =
    opened state after added contents image left (adds contents (sym rests.version) left)
    (subst (λ n. OpensEither n contents (with_added contents added) image) newest
    (c.append_many.ensures.images contents added group rests image at))

pub returns-in-Ok-clause-ok : goal.returns-in-Ok-clause-ok
returns-in-Ok-clause-ok g c state after added group adds (newest, contents, left, rests) = (
  c.append_many.ensures.newest ∙ newest,
  with_added contents added,
  adds contents (sym rests.version) left,
  c.in-Ok.ensures.ok contents added group rests,
)

pub returns-in-Err-Disk-clause-err : goal.returns-in-Err-Disk-clause-err
returns-in-Err-Disk-clause-err g c state after added group adds (newest, contents, left, rests) =
    let more = with_added contents added in
    let still = c.append_many.ensures.newest ∙ newest in ⊎_elim
    (λ same. (None, first_is None (Some after ∷ []), (still, contents, left, same)))
    (λ doubts. (
      Some after,
      second_is None (Some after) [],
      (still, contents, more, left, adds contents (sym rests.version) left, doubts),
    ))
    (c.in-Err-Disk.ensures.err contents added group rests)

pub returns-in-Err-Disk-clause-images : goal.returns-in-Err-Disk-clause-images
returns-in-Err-Disk-clause-images g c state after added group adds (newest, contents, left, rests) image at =
    opened state after added contents image left (adds contents (sym rests.version) left)
    (subst (λ n. OpensEither n contents (with_added contents added) image) newest
    (c.append_many.ensures.images contents added group rests image at))
