-- A list in order, read from its end, is in the turned order.
use Rattle.std.proofs.Common.{◌≡◌, Bool, true, false, cond, not, ◌||◌, List, [], ◌∷◌, ◌++◌, reverse, refl, sym}
use Rattle.std.proofs.Common.{ap, ◌∙◌, arith}
use Rattle.std.specs.Cmp.{IsStrictWeakOrder}
use Rattle.std.specs.List.{filter, list_all}
use Rattle.std.proofs.lemmas.Bool.{and_from, and_parts}
use Rattle.std.proofs.lemmas.List.{append-nil, reverse-append}
use Rattle.std.proofs.lemmas.List.Elements.{filter-append}
use Rattle.std.proofs.lemmas.List.Sorted.{IsPermutation-reverse}
use Rattle.skk_text.specs.Pairs.{all_pairs}
use Rattle.ordered_lists.specs.OrderLaws.{apart, holds_moved, less_than_all, less_trans, list_all-sort_by, sort_ascends}
use Rattle.ordered_lists.specs.Orders.{insert_by, sort_by}

-- the first item comes last
reverse_first : {X : Type 0} (x : X) (xs : List X) → reverse (x ∷ xs) ≡ reverse xs ++ x ∷ []
reverse_first x xs = reverse-append (x ∷ []) xs

-- what is kept of a list is kept of it from its end
pub filter-reverse : {X : Type 0} (p : X → Bool) (xs : List X) → filter p (reverse xs) ≡ reverse (filter p xs)
filter-reverse p [] = refl
filter-reverse p (x ∷ xs) =
    ap (filter p) (reverse_first x xs) ∙ filter-append p (reverse xs) (x ∷ [])
    ∙ ap (λ kept. kept ++ filter p (x ∷ [])) (filter-reverse p xs) ∙ by (p x)
  where
    by : (b : Bool) → reverse (filter p xs) ++ cond b (x ∷ []) [] ≡ reverse (cond b (x ∷ filter p xs) (filter p xs))
    by true = sym (reverse_first x (filter p xs))
    by false = append-nil (reverse (filter p xs))

-- an item that is before none of others stands behind them
insert_last : {X : Type 0} (before : X → X → Bool) (x : X) (xs : List X) → list_all (λ y. not (before x y)) xs ≡ true
    → insert_by before x xs ≡ xs ++ x ∷ []
insert_last before x [] none = refl
insert_last before x (y ∷ ys) none = grind (arith, insert_last before x ys)

-- one that is before the last stands where it does without that
insert_inside : {X : Type 0} (before : X → X → Bool) (x y : X) (xs : List X) → before x y ≡ true
    → insert_by before x (xs ++ y ∷ []) ≡ insert_by before x xs ++ y ∷ []
insert_inside before x y [] e = ap (λ b. cond b (x ∷ y ∷ []) (y ∷ x ∷ [])) e
insert_inside before x y (z ∷ zs) e = by (before x z) (insert_inside before x y zs e)
  where
    by : (b : Bool) → insert_by before x (zs ++ y ∷ []) ≡ insert_by before x zs ++ y ∷ []
        → cond b (x ∷ z ∷ (zs ++ y ∷ [])) (z ∷ insert_by before x (zs ++ y ∷ []))
        ≡ cond b (x ∷ z ∷ zs) (z ∷ insert_by before x zs) ++ y ∷ []
    by true rest = refl
    by false rest = ap (λ ws. z ∷ ws) rest

module _ {X : Type 0} (less : X → X → Bool) (order : IsStrictWeakOrder less) where
  -- two items are put at their places in either order
  pub insert_twice : (x y : X) (zs : List X) → apart less x y ≡ true
      → insert_by less x (insert_by less y zs) ≡ insert_by less y (insert_by less x zs)
  insert_twice x y [] one = grind (arith, order.one_way x y, order.one_way y x)
  insert_twice x y (z ∷ zs) one =
      grind (
        arith,
        order.one_way x y,
        order.one_way y x,
        less_trans less order x y z,
        less_trans less order y x z,
        insert_twice x y zs,
      )

  -- an item that stands somewhere among others comes at its place once they are in order
  pub sort_insert : (before : X → X → Bool) (x : X) (xs : List X) → list_all (apart less x) xs ≡ true
      → sort_by less (insert_by before x xs) ≡ insert_by less x (sort_by less xs)
  sort_insert before x [] others = refl
  sort_insert before x (y ∷ ys) others =
      grind (arith, insert_twice x y (sort_by less ys), sort_insert before x ys)

  module _ (newer : X → X → Bool) (p : X → Bool)
      (turned : (x y : X) → p x ≡ true → p y ≡ true → newer x y ≡ less y x) where
    -- an item that is less than all others is before none of them in the turned order
    none_newer : (x : X) (xs : List X) → p x ≡ true → list_all p xs ≡ true → list_all (less x) xs ≡ true
        → list_all (λ y. not (newer x y)) xs ≡ true
    none_newer x [] here all above = refl
    none_newer x (y ∷ ys) here all above = grind (arith, turned x y, order.one_way x y, none_newer x ys)

    insert_turned : (x : X) (xs : List X) → p x ≡ true → list_all p xs ≡ true → list_all (apart less x) xs ≡ true
        → all_pairs less xs ≡ true → insert_by newer x (reverse xs) ≡ reverse (insert_by less x xs)
    insert_turned x [] here all others pairs = refl
    insert_turned x (y ∷ ys) here all others pairs =
        by (less x y) refl
        (insert_turned x ys here (and_parts (p y) (list_all p ys) all).1
        (and_parts (apart less x y) (list_all (apart less x) ys) others).1
        (and_parts (list_all (less y) ys) (all_pairs less ys) pairs).1)
      where
        by : (b : Bool) → less x y ≡ b → insert_by newer x (reverse ys) ≡ reverse (insert_by less x ys)
            → insert_by newer x (reverse (y ∷ ys)) ≡ reverse (cond b (x ∷ y ∷ ys) (y ∷ insert_by less x ys))
        by true low rest =
            let above = and_from (less x y) (list_all (less x) ys) low
            (less_than_all less order x y ys low (and_parts (list_all (less y) ys) (all_pairs less ys) pairs).0) in
            insert_last newer x (reverse (y ∷ ys))
            (holds_moved (λ z. not (newer x z)) (y ∷ ys) (reverse (y ∷ ys)) (IsPermutation-reverse (y ∷ ys))
            (none_newer x (y ∷ ys) here all above))
            ∙ sym (reverse_first x (y ∷ ys))
        by false high rest =
            let first = turned x y here (and_parts (p y) (list_all p ys) all).0
            ∙ sym (ap (λ b. b || less y x) high)
            ∙ (and_parts (apart less x y) (list_all (apart less x) ys) others).0 in
            ap (insert_by newer x) (reverse_first y ys) ∙ insert_inside newer x y (reverse ys) first
            ∙ ap (λ zs. zs ++ y ∷ []) rest ∙ sym (reverse_first y (insert_by less x ys))

    -- items in the turned order are those in order, read from their end
    pub sort_turned : (xs : List X) → list_all p xs ≡ true → all_pairs (apart less) xs ≡ true
        → sort_by newer xs ≡ reverse (sort_by less xs)
    sort_turned [] all others = refl
    sort_turned (x ∷ xs) all others =
        let some = and_parts (p x) (list_all p xs) all in
        let parts = and_parts (list_all (apart less x) xs) (all_pairs (apart less) xs) others in
        ap (insert_by newer x) (sort_turned xs some.1 parts.1)
        ∙ insert_turned x (sort_by less xs) some.0 (list_all-sort_by less p xs some.1)
        (list_all-sort_by less (apart less x) xs parts.0) (sort_ascends less order xs parts.1)
