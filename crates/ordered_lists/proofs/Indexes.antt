-- What is found by an index of items, and one item more.
use Rattle.std.proofs.Common.{◌≡◌, ℕ, zero, suc, ◌+◌, ◌<◌, ◌≤◌, Bool, true, false, not, Option, None, Some}
use Rattle.std.proofs.Common.{List, [], ◌∷◌, ◌++◌, length, map, take, slice_get, refl, sym, ap, ◌∙◌}
use Rattle.std.proofs.Common.{arith, add-one}
use Rattle.std.specs.Cmp.{IsStrictWeakOrder}
use Rattle.std.specs.Int.{from_bool}
use Rattle.std.specs.List.{insert, list_all}
use Rattle.std.specs.List.Sorted.{IsPartitionedBy, IsPartitionPoint, IsPermutation, IsSortedBy}
use Rattle.std.specs.Option.{is_some, option_and_then}
use Rattle.std.proofs.lemmas.Bool.{and_from, and_parts}
use Rattle.std.proofs.lemmas.List.{length-map}
use Rattle.std.proofs.lemmas.List.Sorted.{IsPermutation-cons, IsPermutation-to_front, IsPermutation-trans}
use Rattle.skk_text.specs.Pairs.{all_pairs}
use Rattle.skk_text.specs.FilterLaws.{none_found}
use Rattle.skk_text.specs.PairsLaws.{list_all-weaker, pairs_appended}
use Rattle.ordered_lists.specs.OrderLaws.{insert_ascends, insert_moves, item_order, items_apart}
use Rattle.ordered_lists.specs.OrderLaws.{items_ascend, same_in_order, sort_moves, sorted_once, list_all-sort_by, apart}
use Rattle.ordered_lists.specs.Orders.{Order, insert_by, passes, sort_by, before, differ, item_above, item_of, HasAt}
use Rattle.ordered_lists.specs.Orders.{IsIndex, IsPlace}
use Rattle.ordered_lists.specs.PlaceLaws.{above_at, first_at, first_read, if_has, insert_at, item_at, item_read}
use Rattle.ordered_lists.specs.PlaceLaws.{partitioned, point_read}

-- ascending items are sorted
pairs_sorted : {X : Type 0} (less : X → X → Bool) → IsStrictWeakOrder less → (xs : List X) → all_pairs less xs ≡ true
    → IsSortedBy less xs
pairs_sorted less order [] pairs k d low high = absurd (omega (arith, high))
pairs_sorted less order (x ∷ []) pairs k d low high = absurd (omega (arith, high))
pairs_sorted less order (x ∷ y ∷ ys) pairs zero d low high = grind (arith, order.one_way x y)
pairs_sorted less order (x ∷ y ∷ ys) pairs (suc k) d low high =
    let parts = and_parts (list_all (less x) (y ∷ ys)) (all_pairs less (y ∷ ys)) pairs in
    simp add-one (simp add-one at (pairs_sorted less order (y ∷ ys) parts.1 k d (omega arith) (omega (arith, high))))

-- what stands in a list stands at the same places once there is one item more behind it
there : {X : Type 0} (xs : List X) (x : X) (k : ℕ) (y : X) → slice_get xs k ≡ Some y
    → slice_get (xs ++ x ∷ []) k ≡ Some y
there [] x k y here = cc
there (z ∷ zs) x zero y here = here
there (z ∷ zs) x (suc k) y here = there zs x k y here

read_longer : {X : Type 0} (all : List X) (x : X) (places : List ℕ) (xs : List X)
    → HasAt all places xs → HasAt (all ++ x ∷ []) places xs
read_longer all x [] xs e = e
read_longer all x (place ∷ places) [] e = cc
read_longer all x (place ∷ places) (y ∷ ys) e =
    let first = first_read (slice_get all) place places y ys e in
    grind (arith, first.0, there all x place y, read_longer all x places ys first.1)

-- that one item stands behind it
read_last : {X : Type 0} (all : List X) (x : X) → slice_get (all ++ x ∷ []) (length all) ≡ Some x
read_last [] x = refl
read_last (y ∷ all) x = read_last all x

-- one place more, where this item stands
inserted : {X : Type 0} (read : ℕ → Option X) (places : List ℕ) (xs : List X) (i place : ℕ) (x : X)
    → map read places ≡ map Some xs → read place ≡ Some x
    → map read (insert places i place) ≡ map Some (insert xs i x)
inserted read [] [] zero place x e here = ap (λ o. o ∷ []) here
inserted read [] [] (suc i) place x e here = ap (λ o. o ∷ []) here
inserted read [] (y ∷ ys) i place x e here = cc
inserted read (other ∷ places) [] i place x e here = cc
inserted read (other ∷ places) (y ∷ ys) zero place x e here = grind arith
inserted read (other ∷ places) (y ∷ ys) (suc i) place x e here =
    let first = first_read read other places y ys e in
    grind (arith, first.0, inserted read places ys i place x first.1)

-- the place of the next item
pub place_more : {X : Type 0} (xs : List X) (i : ℕ) → i < length xs
    → map Some (take (i + 1) xs) ≡ map Some (take i xs) ++ slice_get xs i ∷ []
place_more xs i low = rw add-one (next xs i low)
  where
    next : {X : Type 0} (ys : List X) (k : ℕ) → k < length ys
        → map Some (take (suc k) ys) ≡ map Some (take k ys) ++ slice_get ys k ∷ []
    next [] k high = absurd (omega (arith, high))
    next (y ∷ ys) zero high = refl
    next (y ∷ ys) (suc k) high = ap (λ os. Some y ∷ os) (next ys k (omega (arith, high)))

-- an item is found where it has the key
had_by : {X K : Type 0} (key : X → K) (keys : Order K) (k : K) (here : Option X)
    → is_some (option_and_then (if_has key keys k) here) ≡ passes (λ x. keys.same (key x) k) here
had_by key keys k None = refl
had_by key keys k (Some x) = grind arith

module _ {X K : Type 0} (key : X → K) (keys : Order K) (all : List X) (places : List ℕ) (items : List X)
    (index : IsIndex key keys all places items) where
  ascends : all_pairs (before key keys) (sort_by (before key keys) items) ≡ true
  ascends = items_ascend key keys items index.differ

  module _ (k : K) where
    -- the places are parted at a key
    pub less_parted : IsPartitionedBy (λ place. passes (λ x. keys.less (key x) k) (slice_get all place)) places
    less_parted =
        partitioned (slice_get all) (λ x. keys.less (key x) k) (before key keys)
        (λ x y e f. keys.transitive (key x) (key y) k e f) places (sort_by (before key keys) items) index.in_order
        ascends

    -- and behind it
    pub low_parted : IsPartitionedBy (λ place. passes (λ x. not (keys.less k (key x))) (slice_get all place)) places
    low_parted =
        partitioned (slice_get all) (λ x. not (keys.less k (key x))) (before key keys) still_low places
        (sort_by (before key keys) items) index.in_order ascends
      where
        -- an item that is not greater has no lesser one that is
        still_low : (x y : X) → keys.less (key x) (key y) ≡ true → not (keys.less k (key y)) ≡ true
            → not (keys.less k (key x)) ≡ true
        still_low x y e f = grind (arith, keys.transitive k (key x) (key y))

    -- the place of the key among the places is that among the items in order
    pub place_found : (i : ℕ) → i ≤ length places
        → IsPartitionPoint (λ place. passes (λ x. keys.less (key x) k) (slice_get all place) ≡ true)
        (λ place. passes (λ x. keys.less (key x) k) (slice_get all place) ≡ false) places i
        → IsPlace key keys k (sort_by (before key keys) items) i
    place_found i le point =
        point_read (slice_get all) (λ x. keys.less (key x) k) places (sort_by (before key keys) items) i index.in_order
        le point

    -- there the item of the key stands, if there is one
    pub item_found : (i : ℕ) → IsPlace key keys k (sort_by (before key keys) items) i
        → item_of key keys k items
        ≡ option_and_then (if_has key keys k) (option_and_then (slice_get all) (slice_get places i))
    item_found i place =
        sym (same_in_order key keys k items index.differ)
        ∙ item_at key keys k (sort_by (before key keys) items) i ascends place
        ∙ ap (option_and_then (if_has key keys k))
        (sym (item_read (slice_get all) places (sort_by (before key keys) items) i index.in_order))

    -- and behind it, or there where it is none, the first whose key is greater
    pub near_above : (i : ℕ) → IsPlace key keys k (sort_by (before key keys) items) i
        → option_and_then (slice_get all) (slice_get places (i + from_bool (is_some (item_of key keys k items))))
        ≡ item_above key keys k (sort_by (before key keys) items)
    near_above i place =
        let ordered = sort_by (before key keys) items in
        let at = λ (n : ℕ). item_read (slice_get all) places ordered n index.in_order in
        let found = item_found i place ∙ ap (option_and_then (if_has key keys k)) (at i) in
        let had = ap is_some found ∙ had_by key keys k (slice_get ordered i) in
        rw had (grind (arith, at i, at (suc i), above_at key keys k ordered i ascends place))

    -- and behind all that are not greater
    pub above_found : (i : ℕ) → i ≤ length places
        → IsPartitionPoint (λ place. passes (λ x. not (keys.less k (key x))) (slice_get all place) ≡ true)
        (λ place. passes (λ x. not (keys.less k (key x))) (slice_get all place) ≡ false) places i
        → option_and_then (slice_get all) (slice_get places i)
        ≡ item_above key keys k (sort_by (before key keys) items)
    above_found i le point =
        let ordered = sort_by (before key keys) items in
        item_read (slice_get all) places ordered i index.in_order
        ∙ first_at (λ x. keys.less k (key x)) (λ x. not (keys.less k (key x))) (λ x. grind arith)
        ordered i (point_read (slice_get all) (λ x. not (keys.less k (key x))) places ordered i index.in_order le point)

  -- with the place of one item more, which has another key and comes behind all
  module _ (x : X) (new : item_of key keys (key x) items ≡ None) where
    others : list_all (λ y. not (keys.same (key y) (key x))) items ≡ true
    others = none_found (λ y. keys.same (key y) (key x)) items new

    differ_more : differ key keys (items ++ x ∷ []) ≡ true
    differ_more =
        pairs_appended (λ y z. not (keys.same (key y) (key z))) items (x ∷ []) index.differ refl
        (list_all-weaker (λ y. not (keys.same (key y) (key x)))
        (λ y. list_all (λ z. not (keys.same (key y) (key z))) (x ∷ [])) (λ y e. and_from _ true e refl) items others)

    apart_more : list_all (apart (before key keys) x) (sort_by (before key keys) items) ≡ true
    apart_more =
        list_all-sort_by (before key keys) (apart (before key keys) x) items
        (list_all-weaker (λ y. not (keys.same (key y) (key x))) (apart (before key keys) x) one items others)
      where
        one : (y : X) → not (keys.same (key y) (key x)) ≡ true → apart (before key keys) x y ≡ true
        one y e = grind (arith, keys.apart (key y) (key x))

    pub index_with : (i : ℕ) → i ≤ length places → IsPlace key keys (key x) (sort_by (before key keys) items) i
        → IsIndex key keys (all ++ x ∷ []) (insert places i (length all)) (items ++ x ∷ [])
    index_with i le place =
        let less = before key keys in
        let order = item_order key keys in
        let ordered = sort_by less items in
        let more = items ++ x ∷ [] in
        let lengths : length places ≡ length ordered =
        sym (length-map places (slice_get all)) ∙ ap length index.in_order ∙ length-map ordered Some in
        let put = insert_at key keys x ordered i (omega (arith, le, lengths))
        (list_all-sort_by less (λ y. not (keys.same (key y) (key x))) items others) place in
        let moved : IsPermutation more (insert_by less x ordered) =
        IsPermutation-trans more (x ∷ items) (insert_by less x ordered) (IsPermutation-to_front items x)
        (IsPermutation-trans (x ∷ items) (x ∷ ordered) (insert_by less x ordered)
        (IsPermutation-cons x items ordered (sort_moves less items)) (insert_moves less x ordered)) in
        let sorted = sorted_once less order more (insert_by less x ordered) (items_apart key keys more differ_more)
        moved (pairs_sorted less order (insert_by less x ordered)
        (insert_ascends less order x ordered apart_more ascends)) in
        record {
          differ = differ_more;
          in_order =
              inserted (slice_get (all ++ x ∷ [])) places ordered i (length all) x
              (read_longer all x places ordered index.in_order) (read_last all x)
              ∙ ap (map Some) (sym put ∙ sorted);
        }
