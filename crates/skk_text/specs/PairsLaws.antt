-- What holds of lists of which each item passes a test, or every two items stand in a relation.
use Rattle.std.specs.Prelude.{◌≡◌, ℕ, Bool, true, List, [], ◌∷◌, ◌++◌, map, take}
use Rattle.std.specs.List.{filter, list_all}
use Rattle.std.proofs.Common.{refl, zero, suc, arith}
use Rattle.std.proofs.lemmas.Bool.{and_parts}
use Rattle.std.proofs.lemmas.List.Folds.{list_all-append, list_all-map}
use Rattle.skk_text.specs.Pairs.{all_pairs}

module _ {X : Type 0} (test : X → Bool) where
  -- what each item passes, each that a filter keeps passes
  pub list_all-filter : (keeps : X → Bool) (xs : List X) → list_all test xs ≡ true
      → list_all test (filter keeps xs) ≡ true
  list_all-filter keeps [] all = refl
  list_all-filter keeps (x ∷ xs) all = grind (arith, list_all-filter keeps xs)

  -- what each item passes, each of the first ones passes
  pub list_all-take : (count : ℕ) (xs : List X) → list_all test xs ≡ true → list_all test (take count xs) ≡ true
  list_all-take zero xs all = refl
  list_all-take (suc count) [] all = refl
  list_all-take (suc count) (x ∷ xs) all = grind (arith, list_all-take count xs)

  -- what passes a test passes another that is no harder
  pub list_all-weaker : (weaker : X → Bool) → ((x : X) → test x ≡ true → weaker x ≡ true) → (xs : List X)
      → list_all test xs ≡ true → list_all weaker xs ≡ true
  list_all-weaker weaker so [] all = refl
  list_all-weaker weaker so (x ∷ xs) all = grind (arith, so x, list_all-weaker weaker so xs)

-- of items that pass a test those are kept that pass another with it
pub list_all-kept : {X : Type 0} (test keeps passes : X → Bool)
    → ((x : X) → test x ≡ true → keeps x ≡ true → passes x ≡ true) → (xs : List X) → list_all test xs ≡ true
    → list_all passes (filter keeps xs) ≡ true
list_all-kept test keeps passes both [] all = refl
list_all-kept test keeps passes both (x ∷ xs) all =
    grind (arith, both x, list_all-kept test keeps passes both xs)

module _ {X : Type 0} (test : X → X → Bool) where
  -- of a list of which every two items stand in a relation, so do those that a filter keeps
  pub all_pairs-filter : (keeps : X → Bool) (xs : List X) → all_pairs test xs ≡ true
      → all_pairs test (filter keeps xs) ≡ true
  all_pairs-filter keeps [] all = refl
  all_pairs-filter keeps (x ∷ xs) all =
      grind (arith, list_all-filter (test x) keeps xs, all_pairs-filter keeps xs)

  -- and so do the first ones
  pub all_pairs-take : (count : ℕ) (xs : List X) → all_pairs test xs ≡ true → all_pairs test (take count xs) ≡ true
  all_pairs-take zero xs all = refl
  all_pairs-take (suc count) [] all = refl
  all_pairs-take (suc count) (x ∷ xs) all =
      grind (arith, list_all-take (test x) count xs, all_pairs-take count xs)

-- what is made of each two items passes a test as these pass it
pub all_pairs-map : {X Y : Type 0} (f : X → Y) (test : Y → Y → Bool) (xs : List X)
    → all_pairs test (map f xs) ≡ all_pairs (λ x y. test (f x) (f y)) xs
all_pairs-map f test [] = refl
all_pairs-map f test (x ∷ xs) = grind (arith, list_all-map (test (f x)) f xs, all_pairs-map f test xs)

-- what each two items pass, they pass of another test that is no harder
pub pairs_weaker : {X : Type 0} (test other : X → X → Bool) → ((x y : X) → test x y ≡ true → other x y ≡ true)
    → (xs : List X) → all_pairs test xs ≡ true → all_pairs other xs ≡ true
pairs_weaker test other so [] pairs = refl
pairs_weaker test other so (x ∷ xs) pairs =
    grind (arith, list_all-weaker (test x) (other x) (so x) xs, pairs_weaker test other so xs)

-- what each two items pass, and each with each of others, which pass it too, all of them pass
pub pairs_appended : {X : Type 0} (test : X → X → Bool) (xs ys : List X) → all_pairs test xs ≡ true
    → all_pairs test ys ≡ true → list_all (λ x. list_all (test x) ys) xs ≡ true
    → all_pairs test (xs ++ ys) ≡ true
pairs_appended test [] ys first second across = second
pairs_appended test (x ∷ xs) ys first second across =
    grind (arith, list_all-append (test x) xs ys, pairs_appended test xs ys)

-- what each two items that pass a test pass of another test that is no harder for these
within_all : {X : Type 0} (p test other : X → Bool) → ((x : X) → p x ≡ true → test x ≡ true → other x ≡ true)
    → (xs : List X) → list_all p xs ≡ true → list_all test xs ≡ true → list_all other xs ≡ true
within_all p test other so [] all tests = refl
within_all p test other so (x ∷ xs) all tests = grind (arith, so x, within_all p test other so xs)

pub pairs_within : {X : Type 0} (p : X → Bool) (test other : X → X → Bool)
    → ((x y : X) → p x ≡ true → p y ≡ true → test x y ≡ true → other x y ≡ true)
    → (xs : List X) → list_all p xs ≡ true → all_pairs test xs ≡ true → all_pairs other xs ≡ true
pairs_within p test other so [] all pairs = refl
pairs_within p test other so (x ∷ xs) all pairs =
    let here = (and_parts (p x) (list_all p xs) all).0 in
    grind (arith, within_all p (test x) (other x) (λ y. so x y here) xs, pairs_within p test other so xs)
