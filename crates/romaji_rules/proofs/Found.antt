-- The first element that a test finds, and what a test says of each element.
use Rattle.std.proofs.Common.{◌≡◌, ℕ, ◌<◌, Bool, true, false, None, Some, List, [], ◌∷◌, refl, ◌∙◌, ap}
use Rattle.std.proofs.Common.{inl, inr, ◌⊎◌, length, arith, find, zero, suc, slice_index_or}
use Rattle.std.specs.List.{list_any, list_all, Contains}
use Rattle.std.proofs.lemmas.List.Elements.{Contains-append_right, Contains-get_or}
use Rattle.std.proofs.lemmas.List.Folds.{list_any_at, list_all_at}

module _ {X : Type 0} where
  -- an element is the head or stands in the tail
  pub Contains-head : (x : X) (xs : List X) → Contains (x ∷ xs) x
  Contains-head x xs = Contains-get_or (x ∷ xs) 0 x (omega arith)

  pub Contains-tail : (y : X) (xs : List X) (x : X) → Contains xs x → Contains (y ∷ xs) x
  Contains-tail y xs x h = Contains-append_right (y ∷ []) xs x h

  pub Contains-cases : (y : X) (xs : List X) (x : X) → Contains (y ∷ xs) x → (y ≡ x) ⊎ Contains xs x
  Contains-cases y xs x h = by h.0 h.1 h.2
    where
      by : (k : ℕ) → k < length (y ∷ xs) → slice_index_or (y ∷ xs) k x ≡ x → (y ≡ x) ⊎ Contains xs x
      by zero lt e = inl e
      by (suc k) lt e = inr (k, omega arith, e)

module _ {X : Type 0} (p : X → Bool) where
  -- a test that all pass is passed by each, and one that an element passes by some
  pub list_all-Contains : (xs : List X) (x : X) → list_all p xs ≡ true → Contains xs x → p x ≡ true
  list_all-Contains xs x all h = grind (arith, list_all_at p xs h.0 x h.1, h.2)

  pub list_any-Contains : (xs : List X) (x : X) → Contains xs x → p x ≡ true → list_any p xs ≡ true
  list_any-Contains xs x h e = list_any_at p xs h.0 x h.1 (ap p h.2 ∙ e)

  -- what is found is an element that passes
  pub find-Some : (xs : List X) (x : X) → find p xs ≡ Some x → Contains xs x × (p x ≡ true)
  find-Some [] x e = cc
  find-Some (y ∷ ys) x e = grind (arith, find-Some ys x, Contains-head y ys, Contains-tail y ys x)

  -- where nothing is found, no element passes
  pub find-None : (xs : List X) → find p xs ≡ None → list_any p xs ≡ false
  find-None [] e = refl
  find-None (y ∷ ys) e = grind (arith, find-None ys)
