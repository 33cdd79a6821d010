-- Sums and facts over lists of which one item changes.
use Rattle.std.proofs.Common.{◌≡◌, ℕ, zero, suc, ◌+◌, ◌≤◌, Option, None, Some, List, [], ◌∷◌, ◌++◌, All, refl, ap}
use Rattle.std.proofs.Common.{sym, ◌∙◌, subst, arith}
use Rattle.std.proofs.lemmas.List.Elements.{All-head, All-tail}
use Rattle.std.specs.Prelude.{slice_set}
use mathlib.Core.Option.{some, some-injective, some-ne-none}
use lib.ListN.{get_elem?}
use Rattle.desk_history.specs.declared.view.Account.{Account}
use Rattle.desk_history.specs.declared.view.View.{View}
use Rattle.desk_history.specs.Keeping.{total, rolls, drawn_by, all_drawn}
use Rattle.desk_history.specs.Seats.{first_number}

pub total-set : {A : Type 0} (f : A → ℕ) (xs : List A) (k : ℕ) (old new : A) → get_elem? xs k ≡ some old
    → total f (slice_set xs k new) + f old ≡ total f xs + f new
total-set f [] k old new at = absurd (some-ne-none old (sym at))
total-set f (x ∷ xs) zero old new at = omega (arith, ap f (some-injective x old at))
total-set f (x ∷ xs) (suc k) old new at = omega (arith, total-set f xs k old new at)

pub total-append : {A : Type 0} (f : A → ℕ) (xs ys : List A) → total f (xs ++ ys) ≡ total f xs + total f ys
total-append f [] ys = omega arith
total-append f (x ∷ xs) ys = omega (arith, total-append f xs ys)

pub part-within : {A : Type 0} (f : A → ℕ) (xs : List A) (k : ℕ) (x : A) → get_elem? xs k ≡ some x → f x ≤ total f xs
part-within f [] k x at = absurd (some-ne-none x (sym at))
part-within f (first ∷ xs) zero x at = omega (arith, ap f (some-injective first x at))
part-within f (first ∷ xs) (suc k) x at = omega (arith, part-within f xs k x at)

pub All-at : {A : Type 0} (P : A → Type 0) (xs : List A) (k : ℕ) (x : A) → All P xs → get_elem? xs k ≡ some x → P x
All-at P [] k x all at = absurd (some-ne-none x (sym at))
All-at P (first ∷ xs) zero x all at = subst P (some-injective first x at) (All-head P first xs all)
All-at P (first ∷ xs) (suc k) x all at = All-at P xs k x (All-tail P first xs all) at

-- no roll counts no number
pub none-drawn : (roll : Option ℕ) → rolls roll ≡ 0 → drawn_by roll ≡ 0
none-drawn None none = refl
none-drawn (Some drawn) none = absurd (omega arith)

none-drawn-by-any : (views : List View) → total (λ view. rolls view.roll) views ≡ 0 → all_drawn views ≡ 0
none-drawn-by-any [] none = refl
none-drawn-by-any (view ∷ views) none =
    omega (arith, none-drawn view.roll (omega arith), none-drawn-by-any views (omega arith))

-- where the roll stands in one place, it counts all numbers that were drawn
pub roll-counts-all : (views : List View) (k : ℕ) (view : View) (drawn : ℕ)
    → total (λ view. rolls view.roll) views ≡ 1 → get_elem? views k ≡ some view → view.roll ≡ Some drawn
    → all_drawn views ≡ drawn
roll-counts-all [] k view drawn one at here = absurd (some-ne-none view (sym at))
roll-counts-all (first ∷ views) zero view drawn one at here =
    let is : first.roll ≡ Some drawn = ap (λ (v : View). v.roll) (some-injective first view at) ∙ here in
    let one_here : rolls first.roll ≡ 1 = ap rolls is in
    let drawn_here : drawn_by first.roll ≡ drawn = ap drawn_by is in
    omega (arith, none-drawn-by-any views (omega arith))
roll-counts-all (first ∷ views) (suc k) view drawn one at here =
    let one_there : rolls view.roll ≡ 1 = ap rolls here in
    let within = part-within (λ (v : View). rolls v.roll) views k view at in
    let none_here : drawn_by first.roll ≡ 0 = none-drawn first.roll (omega arith) in
    omega (arith, roll-counts-all views k view drawn (omega arith) at here)

-- where the first of some accounts has a number, there is one
pub first-there : (accounts : List Account) (number : ℕ) → first_number accounts ≡ Some number
    → (first : Account) × (others : List Account) × (accounts ≡ first ∷ others) × (first.number ≡ number)
first-there [] number is = absurd (cc is)
first-there (first ∷ others) number is = (first, others, refl, cc is)
