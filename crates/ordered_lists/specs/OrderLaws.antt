-- What holds of orders and of lists in order: what moves their items, and that there is one order of items of which
-- always one is less.
use Rattle.std.proofs.Common.{◌≡◌, ◌⊎◌, inl, inr, ℕ, zero, suc, ◌+◌, ◌<◌, ◌≤◌, Bool, true, false, cond, not, ◌&&◌, ◌||◌}
use Rattle.std.proofs.Common.{List, [], ◌∷◌, map, length, get_or, find, refl, sym, ap, ◌∙◌, subst, arith}
use Rattle.std.specs.Cmp.{IsStrictWeakOrder}
use Rattle.std.specs.List.{filter, list_all, list_any, Contains}
use Rattle.std.specs.List.Sorted.{IsPermutation, IsSortedBy, IsStableBy, ties}
use Rattle.std.proofs.lemmas.Bool.{and_from, and_parts, cases_Bool, not-true, not_from_false}
use Rattle.std.proofs.lemmas.List.{get_or-map, length-map}
use Rattle.std.proofs.lemmas.List.Elements.{All-contains, Contains-append_right}
use Rattle.std.proofs.lemmas.List.Sorted.{All-permutation, sorted_far, length_permutation, list_any-IsPermutation}
use Rattle.std.proofs.lemmas.List.Sorted.{Contains-permutation, IsPermutation-refl, IsPermutation-sym}
use Rattle.std.proofs.lemmas.List.Sorted.{IsPermutation-trans, IsPermutation-cons, IsPermutation-middle}
use Rattle.std.proofs.lemmas.List.Sums.{AllPass-from_list_all, list_all-from_AllPass}
use Rattle.skk_text.specs.FilterLaws.{filter_same, none_kept, some_passes}
use Rattle.skk_text.specs.Pairs.{all_pairs}
use Rattle.skk_text.specs.PairsLaws.{list_all-filter, list_all-weaker, pairs_weaker}
use Rattle.ordered_lists.specs.Orders.{Order, insert_by, sort_by, before, differ, item_of}

-- Items that move

-- what each item passes, each passes that was moved
pub holds_moved : {X : Type 0} (p : X → Bool) (xs ys : List X) → IsPermutation xs ys → list_all p xs ≡ true
    → list_all p ys ≡ true
holds_moved p xs ys moved all =
    list_all-from_AllPass p ys (All-permutation (λ x. p x ≡ true) xs ys moved (AllPass-from_list_all p xs all))

-- an item at its place among others, and these, are moved
pub insert_moves : {X : Type 0} (before : X → X → Bool) (x : X) (xs : List X)
    → IsPermutation (x ∷ xs) (insert_by before x xs)
insert_moves before x [] = IsPermutation-refl (x ∷ [])
insert_moves before x (y ∷ ys) =
    let stays = IsPermutation-refl (x ∷ y ∷ ys) in
    let behind = IsPermutation-trans (x ∷ y ∷ ys) (y ∷ x ∷ ys) (y ∷ insert_by before x ys)
    (IsPermutation-sym (y ∷ x ∷ ys) (x ∷ y ∷ ys) (IsPermutation-middle (y ∷ []) x ys))
    (IsPermutation-cons y (x ∷ ys) (insert_by before x ys) (insert_moves before x ys)) in
    grind arith

-- what holds of an item and of each other holds of each once it is at its place
pub list_all-insert_by : {X : Type 0} (before : X → X → Bool) (p : X → Bool) (x : X) (xs : List X) → p x ≡ true
    → list_all p xs ≡ true → list_all p (insert_by before x xs) ≡ true
list_all-insert_by before p x xs one all =
    holds_moved p (x ∷ xs) (insert_by before x xs) (insert_moves before x xs) (and_from (p x) (list_all p xs) one all)

-- a list in order has its items
pub sort_moves : {X : Type 0} (before : X → X → Bool) (xs : List X) → IsPermutation xs (sort_by before xs)
sort_moves before [] = IsPermutation-refl []
sort_moves before (x ∷ xs) =
    IsPermutation-trans (x ∷ xs) (x ∷ sort_by before xs) (insert_by before x (sort_by before xs))
    (IsPermutation-cons x xs (sort_by before xs) (sort_moves before xs)) (insert_moves before x (sort_by before xs))

-- what holds of each item holds of each once they are in order
pub list_all-sort_by : {X : Type 0} (before : X → X → Bool) (p : X → Bool) (xs : List X) → list_all p xs ≡ true
    → list_all p (sort_by before xs) ≡ true
list_all-sort_by before p xs all = holds_moved p xs (sort_by before xs) (sort_moves before xs) all

-- what each two items pass, whichever of them comes first, they pass with one more at its place
pub all_pairs-insert_by : {X : Type 0} (before test : X → X → Bool)
    → ((x y : X) → test x y ≡ true → test y x ≡ true) → (x : X) (xs : List X) → list_all (test x) xs ≡ true
    → all_pairs test xs ≡ true → all_pairs test (insert_by before x xs) ≡ true
all_pairs-insert_by before test turned x [] all pairs = refl
all_pairs-insert_by {X} before test turned x (y ∷ ys) all pairs =
    let others = and_parts (test x y) (list_all (test x) ys) all in
    let parts = and_parts (list_all (test y) ys) (all_pairs test ys) pairs in
    by (before x y) (turned x y others.0) parts.0 (all_pairs-insert_by before test turned x ys others.1 parts.1)
  where
    by : (b : Bool) → test y x ≡ true → list_all (test y) ys ≡ true → all_pairs test (insert_by before x ys) ≡ true
        → all_pairs test (cond b (x ∷ y ∷ ys) (y ∷ insert_by before x ys)) ≡ true
    by true one above rest = and_from (list_all (test x) (y ∷ ys)) (all_pairs test (y ∷ ys)) all pairs
    by false one above rest =
        and_from (list_all (test y) (insert_by before x ys)) (all_pairs test (insert_by before x ys))
        (list_all-insert_by before (test y) x ys one above) rest

-- and once they are in order
pub all_pairs-sort_by : {X : Type 0} (before test : X → X → Bool)
    → ((x y : X) → test x y ≡ true → test y x ≡ true) → (xs : List X) → all_pairs test xs ≡ true
    → all_pairs test (sort_by before xs) ≡ true
all_pairs-sort_by before test turned [] pairs = refl
all_pairs-sort_by before test turned (x ∷ xs) pairs =
    let parts = and_parts (list_all (test x) xs) (all_pairs test xs) pairs in
    all_pairs-insert_by before test turned x (sort_by before xs) (list_all-sort_by before (test x) xs parts.0)
    (all_pairs-sort_by before test turned xs parts.1)

-- an item that is before all others is put at their front
pub insert_first : {X : Type 0} (before : X → X → Bool) (x : X) (xs : List X) → list_all (before x) xs ≡ true
    → insert_by before x xs ≡ x ∷ xs
insert_first before x [] all = refl
insert_first before x (y ∷ ys) all = grind arith

-- a list that is in order stays as it is
pub sort_stays : {X : Type 0} (before : X → X → Bool) (xs : List X) → all_pairs before xs ≡ true
    → sort_by before xs ≡ xs
sort_stays before [] pairs = refl
sort_stays before (x ∷ xs) pairs =
    grind (arith, sort_stays before xs, insert_first before x xs)

-- Items that pass a test

-- of items that all fail none is kept
none_of_all : {X : Type 0} (p : X → Bool) (xs : List X) → list_all (λ x. not (p x)) xs ≡ true → filter p xs ≡ []
none_of_all p [] none = refl
none_of_all p (x ∷ xs) none = grind (arith, none_of_all p xs)

-- of an item that fails and those behind it none is kept, where all that it is before fail
pub none_behind : {X : Type 0} (before : X → X → Bool) (p : X → Bool) (x : X) (xs : List X) → p x ≡ false
    → ((y : X) → before x y ≡ true → p y ≡ false) → list_all (before x) xs ≡ true → filter p (x ∷ xs) ≡ []
none_behind before p x xs fails later all =
    rw fails (none_of_all p xs (list_all-weaker (before x) (λ y. not (p y))
    (λ y e. not_from_false (p y) (later y e)) xs all))

-- Items that stand in a list

in_parts : {X : Type 0} (x y : X) (ys : List X) → Contains (y ∷ ys) x → (y ≡ x) ⊎ Contains ys x
in_parts x y ys (zero, low, is) = inl is
in_parts x y ys (suc k, low, is) = inr (k, omega (arith, low), is)

-- Items in order

-- one of two items is less
abbrev pub apart : {X : Type 0} → (X → X → Bool) → X → X → Bool
apart less x y = less x y || less y x

module _ {X : Type 0} (less : X → X → Bool) (order : IsStrictWeakOrder less) where
  -- no item is less than itself
  pub not_itself : (x : X) → less x x ≡ false
  not_itself x = grind (arith, order.one_way x x)

  -- of three items in order the first is less than the last
  pub less_trans : (x y z : X) → less x y ≡ true → less y z ≡ true → less x z ≡ true
  less_trans x y z xy yz = grind (arith, order.chain x z y, order.one_way y z)

  -- an item that is less than one is less than all that this is less than
  pub less_than_all : (x y : X) (ys : List X) → less x y ≡ true → list_all (less y) ys ≡ true
      → list_all (less x) ys ≡ true
  less_than_all x y [] first all = refl
  less_than_all x y (z ∷ zs) first all = grind (arith, less_trans x y z, less_than_all x y zs)

  -- ascending items still do with one more at its place
  pub insert_ascends : (x : X) (xs : List X) → list_all (apart less x) xs ≡ true → all_pairs less xs ≡ true
      → all_pairs less (insert_by less x xs) ≡ true
  insert_ascends x [] others pairs = refl
  insert_ascends x (y ∷ ys) others pairs =
      grind (arith, less_than_all x y ys, list_all-insert_by less (less y) x ys, insert_ascends x ys)

  -- items of which always one is less ascend once they are in order
  pub sort_ascends : (xs : List X) → all_pairs (apart less) xs ≡ true → all_pairs less (sort_by less xs) ≡ true
  sort_ascends [] others = refl
  sort_ascends (x ∷ xs) others =
      grind (arith, insert_ascends x (sort_by less xs), list_all-sort_by less (apart less x) xs, sort_ascends xs)

  -- of a sorted list the rest is sorted, and no item of it is less than the first
  pub rest_sorted : (y : X) (ys : List X) → IsSortedBy less (y ∷ ys) → IsSortedBy less ys
  rest_sorted y ys sorted k d low high =
      let at = λ (n : ℕ). less (get_or (y ∷ ys) n d) (get_or ys k d) ≡ false in
      let next : suc k + 1 ≡ suc (k + 1) = omega arith in
      subst at next (sorted (suc k) d (omega arith) (omega (arith, high)))

  pub none_less : (y z : X) (ys : List X) → IsSortedBy less (y ∷ ys) → Contains ys z → less z y ≡ false
  none_less y z ys sorted (k, low, is) =
      ap (λ w. less w y) (sym is) ∙ sorted_far less order (y ∷ ys) sorted 0 (suc k) z (omega arith) (omega (arith, low))

  -- it falls from no item to a later one
  pub sorted_rises : (xs : List X) → IsSortedBy less xs → all_pairs (λ x y. not (less y x)) xs ≡ true
  sorted_rises [] sorted = refl
  sorted_rises (x ∷ xs) sorted =
      and_from (list_all (λ y. not (less y x)) xs) (all_pairs (λ y z. not (less z y)) xs)
      (list_all-from_AllPass (λ y. not (less y x)) xs
      (λ k d low. ap not (sorted_far less order (x ∷ xs) sorted 0 (suc k) d (omega arith) (omega (arith, low)))))
      (sorted_rises xs (rest_sorted x xs sorted))

  -- of ascending items that stand in a sorted list, those behind the first stand behind the first of that
  behind_first : (z y : X) (zs ys : List X) → list_all (less z) zs ≡ true → IsSortedBy less (y ∷ ys)
      → Contains (y ∷ ys) z
      → ((x : X) → Contains (z ∷ zs) x → Contains (y ∷ ys) x) → (x : X) → Contains zs x → Contains ys x
  behind_first z y zs ys above sorted first all x found =
      by (in_parts x y ys (all x (Contains-append_right (z ∷ []) zs x found))) (at_first (in_parts z y ys first))
    where
      at_first : (y ≡ z) ⊎ Contains ys z → less z y ≡ false
      at_first (inl same) = ap (less z) same ∙ not_itself z
      at_first (inr behind) = none_less y z ys sorted behind

      by : (y ≡ x) ⊎ Contains ys x → less z y ≡ false → Contains ys x
      by (inl same) not_less =
          let greater : less z x ≡ true =
          All-contains (λ w. less z w ≡ true) zs x (AllPass-from_list_all (less z) zs above) found in
          cc
      by (inr behind) not_less = behind

  -- ascending items that stand in a sorted list are no more than that has
  no_more : (zs ys : List X) → all_pairs less zs ≡ true → IsSortedBy less ys → ((x : X) → Contains zs x → Contains ys x)
      → length zs ≤ length ys
  no_more [] ys pairs sorted all = omega arith
  no_more (z ∷ zs) [] pairs sorted all = absurd (omega (arith, (all z (0, omega arith, refl)).1))
  no_more (z ∷ zs) (y ∷ ys) pairs sorted all =
      let parts = and_parts (list_all (less z) zs) (all_pairs less zs) pairs in
      let rest = no_more zs ys parts.1 (rest_sorted y ys sorted)
      (behind_first z y zs ys parts.0 sorted (all z (0, omega arith, refl)) all) in
      omega (arith, rest)

  -- a sorted list of as many items, in which the ascending ones stand, is these
  same_items : (zs ys : List X) → all_pairs less zs ≡ true → IsSortedBy less ys
      → ((x : X) → Contains zs x → Contains ys x) → length ys ≡ length zs → ys ≡ zs
  same_items [] [] pairs sorted all long = refl
  same_items [] (y ∷ ys) pairs sorted all long = absurd (omega (arith, long))
  same_items (z ∷ zs) [] pairs sorted all long = absurd (omega (arith, long))
  same_items (z ∷ zs) (y ∷ ys) pairs sorted all long =
      let parts = and_parts (list_all (less z) zs) (all_pairs less zs) pairs in
      let first = all z (0, omega arith, refl) in
      let rest = behind_first z y zs ys parts.0 sorted first all in
      by (in_parts z y ys first) (same_items zs ys parts.1 (rest_sorted y ys sorted) rest (omega (arith, long)))
      (no_more (z ∷ zs) ys pairs (rest_sorted y ys sorted)) rest
    where
      by : (y ≡ z) ⊎ Contains ys z → ys ≡ zs
          → (((x : X) → Contains (z ∷ zs) x → Contains ys x) → length (z ∷ zs) ≤ length ys)
          → ((x : X) → Contains zs x → Contains ys x) → (y ∷ ys) ≡ (z ∷ zs)
      by (inl same) equal more behind = cc
      by (inr found) equal more behind = absurd (omega (arith, long, more all_behind))
        where
          all_behind : (x : X) → Contains (z ∷ zs) x → Contains ys x
          all_behind x there = either (in_parts x z zs there)
            where
              either : (z ≡ x) ⊎ Contains zs x → Contains ys x
              either (inl same) = subst (Contains ys) same found
              either (inr more_behind) = behind x more_behind

  -- items of which always one is less are sorted in one way
  pub sorted_once : (xs ys : List X) → all_pairs (apart less) xs ≡ true → IsPermutation xs ys → IsSortedBy less ys
      → ys ≡ sort_by less xs
  sorted_once xs ys others moved sorted =
      let placed = sort_moves less xs in
      same_items (sort_by less xs) ys (sort_ascends xs others) sorted
      (λ x found. Contains-permutation xs ys x moved
      (Contains-permutation (sort_by less xs) xs x (IsPermutation-sym xs (sort_by less xs) placed) found))
      (length_permutation xs ys moved ∙ sym (length_permutation xs (sort_by less xs) placed))

-- what was moved in a stable way keeps what a test keeps in order, where those tie that pass it
pub stable_keeps : {X : Type 0} (less : X → X → Bool) (p : X → Bool)
    → ((x y : X) → p x ≡ true → ties less x y ≡ p y) → (xs ys : List X) → IsPermutation xs ys → IsStableBy less xs ys
    → filter p ys ≡ filter p xs
stable_keeps less p tied xs ys moved stable =
    elim (cases_Bool (list_any p xs)) [
      | inl some ↦
          let (x, passes) = some_passes p xs some in
          sym (filter_same (ties less x) p (λ y. tied x y passes) ys) ∙ stable x
          ∙ filter_same (ties less x) p (λ y. tied x y passes) xs
      | inr none ↦
          none_kept p ys (sym (list_any-IsPermutation p xs ys moved) ∙ none) ∙ sym (none_kept p xs none)
    ]

-- what is sorted by what is read of each item, is sorted once it is read
pub sorted_read : {X Y : Type 0} (read : Y → X) (less : X → X → Bool) (ys : List Y)
    → IsSortedBy (λ y z. less (read y) (read z)) ys → IsSortedBy less (map read ys)
sorted_read read less [] sorted k d low high = absurd (omega (arith, high))
sorted_read read less (y ∷ ys) sorted k d low high =
    let within : k + 1 < length (y ∷ ys) = omega (arith, high, length-map (y ∷ ys) read) in
    ap (λ x. less x (get_or (map read (y ∷ ys)) k d)) (get_or-map read (y ∷ ys) (k + 1) y d within)
    ∙ ap (less (read (get_or (y ∷ ys) (k + 1) y))) (get_or-map read (y ∷ ys) k y d (omega (arith, within)))
    ∙ sorted k y low within

-- an order of what is read of items orders these
pub order_read : {X Y : Type 0} (read : Y → X) (less : X → X → Bool) → IsStrictWeakOrder less
    → IsStrictWeakOrder (λ (y z : Y). less (read y) (read z))
order_read read less order = record {
  one_way = λ y z. order.one_way (read y) (read z);
  chain = λ x y z. order.chain (read x) (read y) (read z);
}

-- Keys

module _ {K : Type 0} (keys : Order K) where
  -- a key that is less than another is not that
  pub less_differs : (key other : K) → keys.less key other ≡ true → keys.same key other ≡ false
  less_differs key other less = grind (arith, keys.equal key other, keys.irreflexive key)

  -- nor is one that is greater
  pub greater_differs : (key other : K) → keys.less key other ≡ true → keys.same other key ≡ false
  greater_differs key other less = grind (arith, keys.equal other key, keys.irreflexive key)

  -- a key that is not another and not less is greater
  pub greater : (key other : K) → keys.same key other ≡ false → keys.less key other ≡ false
      → keys.less other key ≡ true
  greater key other differs not_less = grind (arith, keys.apart key other)

  -- so the order is a weak one
  pub weak_order : IsStrictWeakOrder keys.less
  weak_order = record { one_way = one_way; chain = chain }
    where
      one_way : (key other : K) → keys.less key other ≡ true → keys.less other key ≡ false
      one_way key other e = grind (arith, keys.transitive key other key, keys.irreflexive key)

      chain : (key next last : K) → keys.less key next ≡ false → keys.less next last ≡ false
          → keys.less key last ≡ false
      chain key next last e f =
          grind (arith, keys.equal key next, greater key next, keys.transitive next key last)

-- Items by their keys

-- not both of two items pass a test
abbrev not_both : {X : Type 0} → (X → Bool) → X → X → Bool
not_both p x y = not (p x && p y)

module _ {X : Type 0} (p : X → Bool) (less : X → X → Bool) where
  -- of items of which at most one passes, the same is found where one is put among others
  insert_finds : (x : X) (ys : List X) → list_all (not_both p x) ys ≡ true
      → find p (insert_by less x ys) ≡ find p (x ∷ ys)
  insert_finds x [] none = refl
  insert_finds x (y ∷ ys) none = grind (arith, insert_finds x ys)

  -- and where all are put in order
  sort_finds : (xs : List X) → all_pairs (not_both p) xs ≡ true → find p (sort_by less xs) ≡ find p xs
  sort_finds [] pairs = refl
  sort_finds (x ∷ xs) pairs =
      grind (arith, insert_finds x (sort_by less xs), list_all-sort_by less (not_both p x) xs, sort_finds xs)

module _ {X K : Type 0} (key : X → K) (keys : Order K) where
  -- the order of items by their keys is a weak one
  pub item_order : IsStrictWeakOrder (before key keys)
  item_order = order_read key keys.less (weak_order keys)

  -- of items that differ always one is before the other
  pub items_apart : (xs : List X) → differ key keys xs ≡ true → all_pairs (apart (before key keys)) xs ≡ true
  items_apart xs differs =
      pairs_weaker (λ x y. not (keys.same (key x) (key y))) (apart (before key keys))
      (λ x y e. keys.apart (key x) (key y) (not-true (keys.same (key x) (key y)) e)) xs differs

  -- so in order they ascend
  pub items_ascend : (xs : List X) → differ key keys xs ≡ true
      → all_pairs (before key keys) (sort_by (before key keys) xs) ≡ true
  items_ascend xs differs = sort_ascends (before key keys) item_order xs (items_apart xs differs)

  -- and each key has the item that it had
  pub same_in_order : (k : K) (xs : List X) → differ key keys xs ≡ true
      → item_of key keys k (sort_by (before key keys) xs) ≡ item_of key keys k xs
  same_in_order k xs differs =
      sort_finds (λ x. keys.same (key x) k) (before key keys) xs
      (pairs_weaker (λ x y. not (keys.same (key x) (key y))) (not_both (λ x. keys.same (key x) k)) one xs differs)
    where
      one : (x y : X) → not (keys.same (key x) (key y)) ≡ true → not (keys.same (key x) k && keys.same (key y) k) ≡ true
      one x y e =
          grind (arith, keys.equal (key x) k, keys.equal (key y) k, keys.apart (key x) (key y), keys.irreflexive k)

-- what is read of items that pass a test is put in order as they are, where these stand in order by it
module _ {X Y : Type 0} (f : X → Y) (before : X → X → Bool) (less : Y → Y → Bool) (p : X → Bool)
    (same : (x y : X) → p x ≡ true → p y ≡ true → less (f x) (f y) ≡ before x y) where
  insert-map : (x : X) (xs : List X) → p x ≡ true → list_all p xs ≡ true
      → insert_by less (f x) (map f xs) ≡ map f (insert_by before x xs)
  insert-map x [] here all = refl
  insert-map x (y ∷ ys) here all = grind (arith, same x y, insert-map x ys)

  pub sort-map : (xs : List X) → list_all p xs ≡ true → sort_by less (map f xs) ≡ map f (sort_by before xs)
  sort-map [] all = refl
  sort-map (x ∷ xs) all =
      grind (arith, insert-map x (sort_by before xs), list_all-sort_by before p xs, sort-map xs)

-- what is kept of ascending items with one more at its place, and of items once they are in order
module _ {X : Type 0} (less : X → X → Bool) (order : IsStrictWeakOrder less) (p : X → Bool) where
  filter_insert : (x : X) (ys : List X) → all_pairs less ys ≡ true
      → filter p (insert_by less x ys) ≡ cond (p x) (insert_by less x (filter p ys)) (filter p ys)
  filter_insert x [] pairs = refl
  filter_insert x (y ∷ ys) pairs =
      let above = list_all-filter (less x) p ys in
      grind (arith, less_than_all less order x y ys, above, insert_first less x (filter p ys), filter_insert x ys)

  pub filter_sort : (xs : List X) → all_pairs (apart less) xs ≡ true
      → filter p (sort_by less xs) ≡ sort_by less (filter p xs)
  filter_sort [] others = refl
  filter_sort (x ∷ xs) others =
      grind (arith, filter_insert x (sort_by less xs), sort_ascends less order xs, filter_sort xs)
