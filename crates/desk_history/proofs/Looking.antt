-- The pen looks at the table.
use Rattle.std.proofs.Common.{◌≡◌, ℕ, ◌%◌, ◌^◌, Option, None, Some, List, [], ◌∷◌, length, All, refl, ap, ◌∙◌}
use Rattle.std.proofs.Common.{subst, arith}
use Rattle.std.proofs.lemmas.List.Elements.{All-head}
use Rattle.std.specs.Prelude.{slice_index, slice_set}
use mathlib.Core.Option.{some, some-injective}
use lib.ListN.{get_elem?}
use Rattle.atomic_table.specs.Table.{Allows, Me, State, keeps}
use Rattle.skk_calls.specs.declared.entry.Entry.{Entry}
use Rattle.desk_history.specs.declared.view.Account.{Account}
use Rattle.desk_history.specs.declared.view.View.{View}
use Rattle.desk_history.specs.Keeping.{AreTrueOf, IsFirstTrue, IsHistory, IsTold, IsTrueOf, Keeps, KnowsNone}
use Rattle.desk_history.specs.Keeping.{NoneBeyond}
use Rattle.desk_history.proofs.Counts.{roll-counts-all}

-- a state that meets the rule, as the pen's seat sees it
pub record PenSees {S : Type 0} (state : State S View) (pen : View) : Type 0 where
  pub others : List View
  pub views : state.views ≡ pen ∷ others
  pub counted : state.words ≡ (length pen.seen % 2 ^ 64) ∷ []
  pub none : All KnowsNone others
  pub kept : Keeps pen.seen (pen ∷ others)

pub pen-sees : {S : Type 0} (state : State S View) (id : ℕ) (pen : View) → id ≡ 0 → get_elem? state.views id ≡ some pen
    → IsHistory state → PenSees state pen
pen-sees state id pen zero_is at rule =
    let at' : get_elem? (rule.0 ∷ rule.1) 0 ≡ some pen =
    subst (λ i. get_elem? (rule.0 ∷ rule.1) i ≡ some pen) zero_is
    (subst (λ views. get_elem? views id ≡ some pen) rule.2 at) in
    let is : rule.0 ≡ pen = some-injective rule.0 pen at' in
    record {
      others = rule.1;
      views = rule.2 ∙ ap (λ (view : View). view ∷ rule.1) is;
      counted = rule.3 ∙ ap (λ (view : View). (length view.seen % 2 ^ 64) ∷ []) is;
      none = rule.4;
      kept = subst (λ (view : View). Keeps view.seen (view ∷ rule.1)) is rule.5;
    }

-- a step of the pen's seat changes its view alone
pub pen-set : (views : List View) (id : ℕ) (pen new : View) (others : List View) → id ≡ 0 → views ≡ pen ∷ others
    → slice_set views id new ≡ new ∷ others
pen-set views id pen new others zero_is are = rw (are, zero_is) refl

-- and the one word
pub word-set : (words : List ℕ) (n : ℕ) (f : ℕ → ℕ) → words ≡ n ∷ []
    → slice_set words 0 (f (slice_index words 0)) ≡ f n ∷ []
word-set words n f are = rw are refl

first-true : (history : List Entry) (accounts : List Account) → All (IsTrueOf history) accounts
    → IsFirstTrue history accounts
first-true history [] are = tt
first-true history (account ∷ accounts) are = All-head (IsTrueOf history) account accounts are

no-strangers : (pen : View) (others : List View) → Keeps pen.seen (pen ∷ others) → (roll : Option ℕ) → pen.roll ≡ roll
    → NoneBeyond pen.seen roll
no-strangers pen others kept None is = tt
no-strangers pen others kept (Some drawn) is =
    λ number beyond.
    kept.strangers number (omega (arith, roll-counts-all (pen ∷ others) 0 pen drawn kept.one_roll refl is))

-- what the rule says of the pen's view
told : (pen : View) (others : List View) → Keeps pen.seen (pen ∷ others) → IsTold pen
told pen others kept = (
  first-true pen.seen pen.accounts (All-head (AreTrueOf pen.seen) pen others kept.accounts),
  no-strangers pen others kept pen.roll refl,
)

pub looks : {S : Type 0} (slots id : ℕ) (me : Me S View) → id ≡ 0
    → Allows IsHistory slots id me 0 (λ n. n) (λ _ after. (after ≡ me) × IsTold me.0)
looks slots id me zero_is state rule homes at fits =
    let sees = pen-sees state id me.0 zero_is at rule in (
      me.0,
      keeps,
      tt,
      (
        me.0,
        sees.others,
        pen-set state.views id me.0 me.0 sees.others zero_is sees.views,
        word-set state.words (length me.0.seen % 2 ^ 64) (λ n. n) sees.counted,
        sees.none,
        sees.kept,
      ),
      (refl, told me.0 sees.others sees.kept),
    )
