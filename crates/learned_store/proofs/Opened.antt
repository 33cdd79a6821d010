-- What stood over a disk before its learned file was opened stands over it from then on.
use Rattle.std.proofs.Common.{inl, inr, refl, arith, ℕ, ◌<◌, ◌≤◌, List, [], ◌∷◌, All}
use Rattle.std.proofs.lemmas.Bool.{cases_lt}
use Rattle.std.proofs.lemmas.List.Elements.{All-cons, All-nil, All-weaker}
use Rattle.skk_calls.specs.declared.chronicle.Noted.{Noted}
use Rattle.skk_calls.specs.Histories.{Opening}
use Rattle.skk_disk.specs.declared.disk.Disk.{Ghosts}
use Rattle.skk_disk.specs.Image.{Image}
use Rattle.learned_store.specs.Stores.{OpenStore, Recovers}
use Rattle.learned_store.specs.Stands.{time_of, faults_of, RecoversBy, StandsOver, GoOn, Stands}

-- each note was made after a time that is before all of them
made-after : (early time faults : ℕ) (notes : List Noted) (last_time last_faults : ℕ) → early < time
    → GoOn time faults notes last_time last_faults → All (λ (note : Noted). early < time_of note) notes
made-after early time faults [] last_time last_faults before on = All-nil (λ (note : Noted). early < time_of note)
made-after early time faults (first ∷ notes) last_time last_faults before on =
    let here : early < time_of first = omega (arith, before, on.0) in
    All-cons (λ (note : Noted). early < time_of note) first notes here
    (made-after early (time_of first) (faults_of first) notes last_time last_faults here on.3)

module _ {D : Type 0} (disk : Ghosts D) (opening : Opening)
    (past : ℕ → Image → Type 0) (notes : List Noted) (store : OpenStore D)
    (stands : Stands disk opening past notes store) where
  before : (moment : ℕ) (image : Image) → moment < opening.time → Recovers opening.state image
      → RecoversBy opening.state notes moment image
  before moment image early is = record {
    front = [];
    back = notes;
    is = refl;
    later = made-after moment opening.time opening.faults notes (disk.time store.journal.disk)
        (disk.faults store.journal.disk)
        early stands.goes_on;
    recovers = (opening.state, (0, omega arith, refl), is);
  }

  since : (moment : ℕ) (image : Image) → moment < opening.time → RecoversBy opening.state notes opening.time image
      → RecoversBy opening.state notes moment image
  since moment image early is = record {
    front = is.front;
    back = is.back;
    is = is.is;
    later = All-weaker (λ (note : Noted). opening.time < time_of note) (λ (note : Noted). moment < time_of note)
        (λ note later. omega (arith, later, early)) is.back is.later;
    recovers = is.recovers;
  }

  -- where each image since a time before the opening was opened as the state that was opened, all stands since then
  pub stands_since : (start : ℕ)
      → ((moment : ℕ) (image : Image) → start ≤ moment → moment ≤ opening.time → past moment image
      → Recovers opening.state image)
      → StandsOver opening.state notes start (disk.time store.journal.disk) (disk.left_since store.journal.disk)
  stands_since start opened moment image from to left =
      elim (cases_lt moment opening.time) [
        | inr later ↦ stands.moments moment image later to left
        | inl early ↦ elim (stands.passes.goes_on moment image (omega (arith, early)) left) [
          | inl there ↦ before moment image early (opened moment image from (omega (arith, early)) there)
          | inr here ↦ since moment image early
              (stands.moments opening.time image (omega arith) stands.passes.later here)
        ]
      ]
