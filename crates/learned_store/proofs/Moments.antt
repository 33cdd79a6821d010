-- The moments of a disk and the times of notes go on with one call more.
use Rattle.std.proofs.Common.{◌≡◌, ◌⊎◌, inl, inr, refl, sym, ◌∙◌, ap, subst, arith, append_assoc}
use Rattle.std.proofs.Common.{ℕ, ◌<◌, ◌≤◌, List, [], ◌∷◌, ◌++◌, All}
use Rattle.std.proofs.lemmas.Bool.{cases_lt}
use Rattle.std.proofs.lemmas.List.{append-nil}
use Rattle.std.proofs.lemmas.List.Elements.{All-append, All-cons, All-nil}
use Rattle.skk_calls.specs.declared.chronicle.Noted.{Noted}
use Rattle.skk_calls.specs.States.{State}
use Rattle.skk_disk.specs.Image.{Image}
use Rattle.skk_disk.specs.Moments.{Passes, Earlier}
use Rattle.learned_store.specs.Stores.{RecoversOneOf}
use Rattle.learned_store.specs.Stands.{time_of, faults_of, left_behind, RecoversBy, StandsOver, HasCause, GoOn}

-- times and counts go on with one note more
pub goes_on-more : (time faults : ℕ) (notes : List Noted) (last_time last_faults : ℕ) (note : Noted)
    → GoOn time faults notes last_time last_faults → last_time ≤ time_of note → last_faults ≤ faults_of note
    → HasCause last_faults note
    → GoOn time faults (notes ++ note ∷ []) (time_of note) (faults_of note)
goes_on-more time faults [] last_time last_faults note on later more cause = (
  subst (λ t. t ≤ time_of note) on.0 later,
  subst (λ f. f ≤ faults_of note) on.1 more,
  subst (λ f. HasCause f note) on.1 cause,
  (refl, refl),
)
goes_on-more time faults (first ∷ notes) last_time last_faults note on later more cause = (
  on.0,
  on.1,
  on.2,
  goes_on-more (time_of first) (faults_of first) notes last_time last_faults note on.3 later more cause,
)

-- the last time is none before the first one
pub goes_on-start : (time faults : ℕ) (notes : List Noted) (last_time last_faults : ℕ)
    → GoOn time faults notes last_time last_faults → time ≤ last_time
goes_on-start time faults [] last_time last_faults on = omega (arith, on.0)
goes_on-start time faults (first ∷ notes) last_time last_faults on =
    let rest = goes_on-start (time_of first) (faults_of first) notes last_time last_faults on.3 in
    omega (arith, on.0, rest)

module _ (opened : State) (old new : ℕ) (past since : ℕ → Image → Type 0) (notes : List Noted) (note : Noted)
    (earlier : Earlier since) (passes : Passes old new past since) (made : time_of note ≡ new)
    (within : (image : Image) → since old image → RecoversOneOf (left_behind opened notes) image
    ⊎ RecoversOneOf (left_behind opened (notes ++ note ∷ [])) image)
    (at_end : (image : Image) → since new image → RecoversOneOf (left_behind opened (notes ++ note ∷ [])) image) where
  whole : (time : ℕ) (image : Image) → RecoversOneOf (left_behind opened (notes ++ note ∷ [])) image
      → RecoversBy opened (notes ++ note ∷ []) time image
  whole time image is = record {
    front = notes ++ note ∷ [];
    back = [];
    is = sym (append-nil (notes ++ note ∷ []));
    later = All-nil (λ (one : Noted). time < time_of one);
    recovers = is;
  }

  last : (time : ℕ) → time < new → All (λ (one : Noted). time < time_of one) (note ∷ [])
  last time before =
      All-cons (λ (one : Noted). time < time_of one) note [] (subst (λ n. time < n) (sym made) before)
      (All-nil (λ (one : Noted). time < time_of one))

  in_call : (time : ℕ) (image : Image) → time < new → since old image
      → RecoversBy opened (notes ++ note ∷ []) time image
  in_call time image before here = elim (within image here) [
    | inl is ↦ record { front = notes; back = note ∷ []; is = refl; later = last time before; recovers = is }
    | inr is ↦ whole time image is
  ]

  one-more : (time : ℕ) (image : Image) → time < new → RecoversBy opened notes time image
      → RecoversBy opened (notes ++ note ∷ []) time image
  one-more time image before was = record {
    front = was.front;
    back = was.back ++ note ∷ [];
    is = ap (λ (l : List Noted). l ++ note ∷ []) was.is ∙ append_assoc was.front was.back (note ∷ []);
    later = All-append (λ (one : Noted). time < time_of one) was.back (note ∷ []) was.later (last time before);
    recovers = was.recovers;
  }

  -- what stood over the disk before a call stands over it with its note
  pub stands_over-more : (start : ℕ) → start ≤ old → StandsOver opened notes start old past
      → StandsOver opened (notes ++ note ∷ []) start new since
  stands_over-more start begun stood time image from to left =
      elim (cases_lt time new) [
        | inr now ↦ whole time image (at_end image (earlier new time image now left))
        | inl before ↦ elim (cases_lt old time) [
          | inl later ↦ in_call time image before (earlier old time image (omega arith) left)
          | inr earlier_on ↦ elim (passes.goes_on time image earlier_on left) [
            | inr here ↦ in_call time image before here
            | inl there ↦ one-more time image before (stood time image from earlier_on there)
          ]
        ]
      ]
