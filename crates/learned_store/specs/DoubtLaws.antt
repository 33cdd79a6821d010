-- Results by their cases, and lists of states.
use Rattle.std.proofs.Common.{◌≡◌, ⊎_elim, List, [], ◌∷◌, ◌++◌, refl, sym, subst, arith}
use Rattle.std.proofs.Common.{rules, Result, Ok, Err, OnOk, OnErr}
use Rattle.std.proofs.lemmas.List.Elements.{Contains-append_left, Contains-append_right, Contains-append_cases}
use Rattle.std.specs.Prelude.{ℕ, Option, None, Some, IsOk, IsErrOf, MatchResult, Contains}
use Rattle.skk_outside.specs.declared.outside.Failed.{Failed}
use Rattle.skk_calls.specs.declared.answer.Refusal.{Refusal}
use Rattle.skk_calls.specs.declared.answer.Refusal.TheVariants.{Disk}
use Rattle.skk_calls.specs.States.{State}
use Rattle.skk_disk.specs.declared.disk.Disk.{Ghosts}
use Rattle.skk_disk.specs.Image.{Image}
use Rattle.skk_journal.specs.Journal.{OpenJournal}
use Rattle.learned_store.specs.Stores.{Adds, Keeps, KeepsOneOf, RecoversOneOf, with_doubt}

-- what holds of a result by its case, by what holds in each
pub match_of : {T E : Type 0} (P Q : Type 0) (r : Result T E) → OnOk r P → OnErr r Q → MatchResult r (λ _. P) (λ _. Q)
match_of P Q (Ok x) p q = p
match_of P Q (Err e) p q = q

pub on_ok : {T E P : Type 0} (r : Result T E) → P → OnOk r P
on_ok (Ok x) p = p
on_ok (Err e) p = tt

pub on_err : {T E P : Type 0} (r : Result T E) → P → OnErr r P
on_err (Ok x) p = tt
on_err (Err e) p = p

pub never_err : {T E : Type 0} (Q : Type 0) (r : Result T E) → IsOk r → OnErr r Q
never_err Q (Ok x) is = tt
never_err Q (Err e) is = search rules

pub on_ok_both : {T E : Type 0} (P Q : Type 0) (r : Result T E) → OnOk r P → OnOk r Q → OnOk r (P × Q)
on_ok_both P Q (Ok x) p q = (p, q)
on_ok_both P Q (Err e) p q = tt

pub on_err_both : {T E : Type 0} (P Q : Type 0) (r : Result T E) → OnErr r P → OnErr r Q → OnErr r (P × Q)
on_err_both P Q (Ok x) p q = tt
on_err_both P Q (Err e) p q = (p, q)

-- where a result is refused for the disk just where another one failed
pub unless_disk : (P : Type 0) (Q : Refusal → Type 0) (done : Result (Unit {0}) Failed)
    (result : Result (Unit {0}) Refusal) → MatchResult done (λ _. IsOk result) (λ _. IsErrOf result Disk)
    → OnOk done P → OnErr done (Q Disk) → MatchResult result (λ _. P) Q
unless_disk P Q (Ok x) (Ok y) is p q = p
unless_disk P Q (Ok x) (Err y) is p q = absurd (cc is)
unless_disk P Q (Err x) result is p q =
    subst (λ (r : Result (Unit {0}) Refusal). MatchResult r (λ _. P) Q) (sym is) q

-- what a payload adds to a file of a version it adds where the version is the same
pub adds_at : {v w : ℕ} (payload : List ℕ) (state after : State) → v ≡ w → Adds w payload state after
    → Adds v payload state after
adds_at payload state after same adds = subst (λ n. Adds n payload state after) (sym same) adds

-- the first and the second of a list are of it
pub first_is : {X : Type 0} (x : X) (xs : List X) → Contains (x ∷ xs) x
first_is x xs = (0, omega arith, refl)

pub second_is : {X : Type 0} (x y : X) (xs : List X) → Contains (x ∷ y ∷ xs) y
second_is x y xs = (1, omega arith, refl)

module _ (state after : State) where
  -- what is of the state alone, or of it and of the one after a change, is of these and what is in doubt
  one_is_state : (doubt : Option State) (x : State) → Contains (state ∷ []) x
      → Contains (with_doubt state doubt ++ after ∷ []) x
  one_is_state None x is = Contains-append_left (state ∷ []) (after ∷ []) x is
  one_is_state (Some doubted) x is = Contains-append_left (state ∷ []) (doubted ∷ after ∷ []) x is

  one_is_either : (doubt : Option State) (x : State) → Contains (state ∷ after ∷ []) x
      → Contains (with_doubt state doubt ++ after ∷ []) x
  one_is_either doubt x is = ⊎_elim (one_is_state doubt x)
      (Contains-append_right (with_doubt state doubt) (after ∷ []) x)
      (Contains-append_cases (state ∷ []) (after ∷ []) x is)

-- States that an image is opened as, among more

module _ (state after : State) (doubt : Option State) (image : Image) where
  pub doubt_more : RecoversOneOf (with_doubt state doubt) image
      → RecoversOneOf (with_doubt state doubt ++ after ∷ []) image
  doubt_more (found, is, opened) =
      (found, Contains-append_left (with_doubt state doubt) (after ∷ []) found is, opened)

  pub state_more : RecoversOneOf (state ∷ []) image → RecoversOneOf (with_doubt state doubt ++ after ∷ []) image
  state_more (found, is, opened) = (found, one_is_state state after doubt found is, opened)

  pub either_more : RecoversOneOf (state ∷ after ∷ []) image
      → RecoversOneOf (with_doubt state doubt ++ after ∷ []) image
  either_more (found, is, opened) = (found, one_is_either state after doubt found is, opened)

-- What is in doubt, among more

module _ {D : Type 0} (disk : Ghosts D) (journal : OpenJournal D) (state after : State) (doubt : Option State) where
  -- it may be what was so before, nothing, the state, or the one after a change
  abbrev pub KeepsMore : Type 0
  KeepsMore = KeepsOneOf disk journal state (doubt ∷ None ∷ Some state ∷ Some after ∷ [])

  pub doubt_stays : Keeps disk journal state doubt → KeepsMore
  doubt_stays keeps = (doubt, first_is doubt (None ∷ Some state ∷ Some after ∷ []), keeps)

  pub doubt_is_state : KeepsOneOf disk journal state (None ∷ Some state ∷ []) → KeepsMore
  doubt_is_state (now, is, keeps) = (
    now,
    Contains-append_right (doubt ∷ []) (None ∷ Some state ∷ Some after ∷ []) now
        (Contains-append_left (None ∷ Some state ∷ []) (Some after ∷ []) now is),
    keeps,
  )

  pub doubt_is_after : KeepsOneOf disk journal state (None ∷ Some after ∷ []) → KeepsMore
  doubt_is_after (now, is, keeps) = (
    now,
    ⊎_elim
        (λ none. Contains-append_right (doubt ∷ []) (None ∷ Some state ∷ Some after ∷ []) now
        (Contains-append_left (None ∷ []) (Some state ∷ Some after ∷ []) now none))
        (Contains-append_right (doubt ∷ None ∷ Some state ∷ []) (Some after ∷ []) now)
        (Contains-append_cases (None ∷ []) (Some after ∷ []) now is),
    keeps,
  )
