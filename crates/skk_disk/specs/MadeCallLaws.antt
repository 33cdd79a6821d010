-- What a record of calls tells of the images that it allows.
use Rattle.std.specs.Prelude.{◌≡◌, ◌⊎◌, ℕ, ◌+◌, ◌≤◌, ◌<◌, List, [], ◌∷◌, ◌++◌, length, take}
use Rattle.std.proofs.Common.{inl, inr, refl, sym, ◌∙◌, ap, subst, arith}
use Rattle.std.proofs.lemmas.Bool.{cases_lt}
use Rattle.std.proofs.lemmas.List.{take_all, take-append-le, length_push}
use Rattle.skk_disk.specs.declared.which.Which.{Which}
use Rattle.skk_disk.specs.declared.which.Which.TheVariants.{A, B}
use Rattle.skk_disk.specs.declared.made_call.MadeCall.{MadeCall}
use Rattle.skk_disk.specs.declared.made_call.MadeCall.TheVariants.{Write, TornWrite, Cut, TornCut, Sync}
use Rattle.skk_disk.specs.Image.{Image}
use Rattle.skk_disk.specs.Moments.{Passes, Earlier, Apart}
use Rattle.skk_disk.specs.Steps.{ComeFrom}
use Rattle.skk_disk.specs.FileStates.{FileState, empty_file, IsSound, after_sync}
use Rattle.skk_disk.specs.FileStates.{after_write, torn_write, after_cut, torn_cut}
use Rattle.skk_disk.specs.FileLaws.{sound_write, sound_torn_write, sound_cut, sound_torn_cut, sound_sync}
use Rattle.skk_disk.specs.FileLaws.{seen_may_be_left}
use Rattle.skk_disk.specs.MadeCalls.{DiskState, empty_disk, file_of, with_file, after_call, after_calls, made_by}
use Rattle.skk_disk.specs.MadeCalls.{image_seen, IsImage, LeftSince}

-- both files are sound
pub record AreSound (disk : DiskState) : Type 0 where
  pub a : IsSound disk.a
  pub b : IsSound disk.b

sound_of : (which : Which) (disk : DiskState) → AreSound disk → IsSound (file_of which disk)
sound_of A disk both = both.a
sound_of B disk both = both.b

sound_with : (which : Which) (file : FileState) (disk : DiskState) → IsSound file → AreSound disk
    → AreSound (with_file which file disk)
sound_with A file disk sound both = record { a = sound; b = both.b }
sound_with B file disk sound both = record { a = both.a; b = sound }

sound_call : (disk : DiskState) (call : MadeCall) → AreSound disk → AreSound (after_call disk call)
sound_call disk (Write file at bytes) both =
    let old = file_of file disk in
    sound_with file (after_write at bytes old) disk (sound_write at bytes old (sound_of file disk both)) both
sound_call disk (TornWrite file at count) both =
    let old = file_of file disk in
    sound_with file (torn_write at count old) disk (sound_torn_write at count old (sound_of file disk both)) both
sound_call disk (Cut file len) both =
    let old = file_of file disk in
    sound_with file (after_cut len old) disk (sound_cut len old (sound_of file disk both)) both
sound_call disk (TornCut file len) both =
    let old = file_of file disk in
    sound_with file (torn_cut len old) disk (sound_torn_cut len old (sound_of file disk both)) both
sound_call disk (Sync file) both =
    let old = file_of file disk in sound_with file (after_sync old) disk (sound_sync old) both

sound_calls : (disk : DiskState) (calls : List MadeCall) → AreSound disk → AreSound (after_calls disk calls)
sound_calls disk [] both = both
sound_calls disk (call ∷ calls) both = sound_calls (after_call disk call) calls (sound_call disk call both)

-- what a read gives of both files after calls has a length between the two
pub sound : (calls : List MadeCall) → AreSound (made_by calls)
sound calls =
    let empty : IsSound empty_file = record { at_least = omega arith; at_most = omega arith } in
    sound_calls empty_disk calls (record { a = empty; b = empty })

-- one call more is made of what the others left
pub after_push : (disk : DiskState) (calls : List MadeCall) (call : MadeCall)
    → after_calls disk (calls ++ call ∷ []) ≡ after_call (after_calls disk calls) call
after_push disk [] call = refl
after_push disk (first ∷ calls) call = after_push (after_call disk first) calls call

module _ (calls : List MadeCall) where
  -- what a stop since a moment might have left, one since an earlier moment might have left
  pub earlier : Earlier (LeftSince calls)
  earlier t u image le left = (left.0, omega (arith, left.1), left.2, left.3)

  all_of : (k : ℕ) → length calls ≤ k → made_by (take k calls) ≡ made_by calls
  all_of k long = ap (after_calls empty_disk) (take_all k calls long)

  -- what a stop since now might have left is what it may leave now
  pub image_now : (image : Image) → LeftSince calls (length calls) image → IsImage (made_by calls) image
  image_now image left = subst (λ (d : DiskState). IsImage d image) (all_of left.0 left.1) left.3

  pub now_image : (image : Image) → IsImage (made_by calls) image → LeftSince calls (length calls) image
  now_image image is = (
    length calls,
    omega arith,
    omega arith,
    subst (λ (d : DiskState). IsImage d image) (sym (all_of (length calls) (omega arith))) is,
  )

  -- what a read gives is what a stop may leave
  pub reads_image : LeftSince calls (length calls) (image_seen (made_by calls))
  reads_image =
      let both = sound calls in
      now_image (image_seen (made_by calls)) (record {
        a = seen_may_be_left (made_by calls).a both.a;
        b = seen_may_be_left (made_by calls).b both.b;
      })

  -- each file goes its own way
  pub apart : Apart (LeftSince calls (length calls))
  apart c d is_c is_d =
      now_image (record { a = c.a; b = d.b }) (record { a = (image_now c is_c).a; b = (image_now d is_d).b })

module _ (calls : List MadeCall) (call : MadeCall) where
  -- the calls and one more
  abbrev pub more : List MadeCall
  more = calls ++ call ∷ []

  abbrev after : DiskState
  after = after_call (made_by calls) call

  -- they are one more
  pub one_longer : length more ≡ length calls + 1
  one_longer = length_push calls call

  old_state : (k : ℕ) → k ≤ length calls → made_by (take k more) ≡ made_by (take k calls)
  old_state k le = ap (after_calls empty_disk) (take-append-le k calls (call ∷ []) le)

  new_state : (k : ℕ) → length calls < k → made_by (take k more) ≡ after
  new_state k gt =
      ap (after_calls empty_disk) (take_all k more (omega (arith, one_longer))) ∙ after_push empty_disk calls call

  -- what a stop since a time might have left after one more call: what it might have left before, or leaves now
  pub old_or_new : (t : ℕ) (image : Image) → LeftSince more t image → LeftSince calls t image ⊎ IsImage after image
  old_or_new t image left = elim (cases_lt (length calls) left.0) [
    | inl gt ↦ inr (subst (λ (d : DiskState). IsImage d image) (new_state left.0 gt) left.3)
    | inr le ↦ inl (left.0, left.1, le, subst (λ (d : DiskState). IsImage d image) (old_state left.0 le) left.3)
  ]

  kept : (t : ℕ) (image : Image) → LeftSince calls t image → LeftSince more t image
  kept t image left = (
    left.0,
    left.1,
    omega (arith, left.2, one_longer),
    subst (λ (d : DiskState). IsImage d image) (sym (old_state left.0 left.2)) left.3,
  )

  new_image : (t : ℕ) (image : Image) → t ≤ length calls → IsImage after image → LeftSince more t image
  new_image t image le is = (
    length more,
    omega (arith, one_longer),
    omega arith,
    subst (λ (d : DiskState). IsImage d image) (sym (new_state (length more) (omega (arith, one_longer)))) is,
  )

  -- time goes on by the call
  pub passes : Passes (length calls) (length more) (LeftSince calls) (LeftSince more)
  passes = record {
    later = omega (arith, one_longer);
    goes_on = λ t image le left. elim (old_or_new t image left) [
      | inl old ↦ inl old
      | inr new ↦ inr (new_image (length calls) image (omega arith) new)
    ];
    keeps = λ t image le left. kept t image left;
  }

  -- where each image after the call is one before it after a step, so is each since the call's start
  pub follows : (step : Image → Image → Type 0) → ((image : Image) → step image image)
      → ((new : Image) → IsImage after new → (old : Image) × IsImage (made_by calls) old × step old new)
      → ComeFrom step (LeftSince calls (length calls)) (LeftSince more (length calls))
  follows step still steps image left = elim (old_or_new (length calls) image left) [
    | inl old ↦ (image, old, still image)
    | inr new ↦ let from = steps image new in (from.0, now_image calls from.0 from.1, from.2)
  ]

  -- what a stop since the moment after the call might have left, one now may leave
  pub left_now : (image : Image) → LeftSince more (length more) image → IsImage after image
  left_now image left =
      subst (λ (d : DiskState). IsImage d image) (new_state left.0 (omega (arith, left.1, one_longer))) left.3
