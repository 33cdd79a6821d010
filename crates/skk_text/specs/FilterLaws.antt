-- What a filter keeps, and what a search finds.
use Rattle.std.specs.Prelude.{◌≡◌, Bool, true, false, not, ◌&&◌, None, Some, List, [], ◌∷◌, find, map}
use Rattle.std.specs.List.{filter, list_all, list_any}
use Rattle.std.specs.Option.{option_map}
use Rattle.std.proofs.Common.{refl, arith}

module _ {X : Type 0} (p : X → Bool) where
  -- a filter that all pass changes nothing
  pub filter_all : (xs : List X) → list_all p xs ≡ true → filter p xs ≡ xs
  filter_all [] e = refl
  filter_all (x ∷ xs) e = grind (arith, filter_all xs)

  -- one that none passes keeps nothing
  pub filter_none : (xs : List X) → list_all (λ x. not (p x)) xs ≡ true → filter p xs ≡ []
  filter_none [] e = refl
  filter_none (x ∷ xs) e = grind (arith, filter_none xs)

  -- each that a filter keeps passes it
  pub list_all_kept : (xs : List X) → list_all p (filter p xs) ≡ true
  list_all_kept [] = refl
  list_all_kept (x ∷ xs) = grind (arith, list_all_kept xs)

  -- where no element passes, nothing is found
  pub find_none : (xs : List X) → list_all (λ x. not (p x)) xs ≡ true → find p xs ≡ None
  find_none [] e = refl
  find_none (x ∷ xs) e = grind (arith, find_none xs)

  -- what is found passes the test
  pub find_passes : (xs : List X) (x : X) → find p xs ≡ Some x → p x ≡ true
  find_passes [] x e = cc
  find_passes (y ∷ ys) x e = grind (arith, find_passes ys x)

-- tests that are the same keep the same
pub filter_same : {X : Type 0} (p q : X → Bool) → ((x : X) → p x ≡ q x) → (xs : List X) → filter p xs ≡ filter q xs
filter_same p q same [] = refl
filter_same p q same (x ∷ xs) = grind (arith, same x, filter_same p q same xs)

-- to keep of what was kept is to keep by both tests
pub filter-filter : {X : Type 0} (p q : X → Bool) (xs : List X)
    → filter q (filter p xs) ≡ filter (λ x. p x && q x) xs
filter-filter p q [] = refl
filter-filter p q (x ∷ xs) = grind (arith, filter-filter p q xs)

-- where all that pass one test pass another, what that keeps has them all
pub filter_within : {X : Type 0} (p q : X → Bool) → ((x : X) → q x ≡ true → p x ≡ true) → (xs : List X)
    → filter q (filter p xs) ≡ filter q xs
filter_within p q within [] = refl
filter_within p q within (x ∷ xs) = grind (arith, within x, filter_within p q within xs)

-- what is kept of what is made of items is made of what is kept
pub filter-map : {X Y : Type 0} (f : X → Y) (p : Y → Bool) (xs : List X)
    → filter p (map f xs) ≡ map f (filter (λ x. p (f x)) xs)
filter-map f p [] = refl
filter-map f p (x ∷ xs) = grind (arith, filter-map f p xs)

-- what holds of each element holds of what is found
pub list_all_found : {X : Type 0} (p q : X → Bool) (xs : List X) (x : X) → list_all p xs ≡ true
    → find q xs ≡ Some x → p x ≡ true
list_all_found p q [] x all e = cc
list_all_found p q (y ∷ ys) x all e = grind (arith, list_all_found p q ys x)

-- what is found among what is made of items is made of what is found among these
pub find-map : {X Y : Type 0} (f : X → Y) (p : Y → Bool) (xs : List X)
    → find p (map f xs) ≡ option_map f (find (λ x. p (f x)) xs)
find-map f p [] = refl
find-map f p (x ∷ xs) = grind (arith, find-map f p xs)

-- where all that pass one test pass another, what this keeps has the first of them
pub find_within : {X : Type 0} (p q : X → Bool) → ((x : X) → q x ≡ true → p x ≡ true) → (xs : List X)
    → find q (filter p xs) ≡ find q xs
find_within p q within [] = refl
find_within p q within (x ∷ xs) = grind (arith, within x, find_within p q within xs)

-- where two tests are the same at each item, they find the same
pub find_same : {X : Type 0} (p q each : X → Bool) → ((x : X) → each x ≡ true → p x ≡ q x) → (xs : List X)
    → list_all each xs ≡ true → find p xs ≡ find q xs
find_same p q each same [] all = refl
find_same p q each same (x ∷ xs) all = grind (arith, same x, find_same p q each same xs)

-- where none is found none passes
pub none_found : {X : Type 0} (p : X → Bool) (xs : List X) → find p xs ≡ None → list_all (λ x. not (p x)) xs ≡ true
none_found p [] e = refl
none_found p (x ∷ xs) e = grind (arith, none_found p xs)

-- where some pass one is known, and else none is kept
pub some_passes : {X : Type 0} (p : X → Bool) (xs : List X) → list_any p xs ≡ true → (x : X) × (p x ≡ true)
some_passes p [] e = cc
some_passes p (x ∷ xs) e = grind (arith, some_passes p xs)

pub none_kept : {X : Type 0} (p : X → Bool) (xs : List X) → list_any p xs ≡ false → filter p xs ≡ []
none_kept p [] e = refl
none_kept p (x ∷ xs) e = grind (arith, none_kept p xs)
