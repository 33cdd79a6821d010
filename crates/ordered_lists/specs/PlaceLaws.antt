-- Where a search by halves ends among items in order, and what is found, put or left out there.
use Rattle.std.proofs.Common.{◌≡◌, ℕ, zero, suc, ◌<◌, ◌≤◌, Bool, true, false, cond, not, Option, None, Some, List, []}
use Rattle.std.proofs.Common.{◌∷◌, ◌-◌, drop, length, length-drop, slice_range, get_or, set, map, find, slice_get}
use Rattle.std.proofs.Common.{refl, sym, ap, ◌∙◌, subst, arith}
use Rattle.std.specs.List.{filter, list_all, insert, remove}
use Rattle.std.specs.List.Sorted.{IsPartitionedBy, IsPartitionPoint}
use Rattle.std.specs.Option.{option_and_then}
use Rattle.std.proofs.lemmas.Bool.{and_parts, not_from_false}
use Rattle.std.proofs.lemmas.List.{get_or-map, length-map, take_all}
use Rattle.skk_text.specs.Pairs.{all_pairs}
use Rattle.skk_text.specs.PairsLaws.{list_all-weaker}
use Rattle.skk_text.specs.FilterLaws.{filter_all, find_none}
use Rattle.ordered_lists.specs.Orders.{Order, insert_by, passes, before, ascend, item_above, item_of, without}
use Rattle.ordered_lists.specs.Orders.{with_item, IsPlace}
use Rattle.ordered_lists.specs.OrderLaws.{greater, greater_differs, insert_first, less_differs, weak_order}

-- Items that are read at places

module _ {P X : Type 0} (read : P → Option X) where
  -- at the first place the first item stands, and at the others the others
  pub first_read : (place : P) (places : List P) (x : X) (xs : List X) → map read (place ∷ places) ≡ map Some (x ∷ xs)
      → (read place ≡ Some x) × (map read places ≡ map Some xs)
  first_read place places x xs e = (cc, cc)

  -- what is read at a place is the item there
  pub item_read : (places : List P) (xs : List X) (i : ℕ) → map read places ≡ map Some xs
      → option_and_then read (slice_get places i) ≡ slice_get xs i
  item_read [] [] i e = refl
  item_read [] (x ∷ xs) i e = cc
  item_read (place ∷ places) [] i e = cc
  item_read (place ∷ places) (x ∷ xs) zero e = (first_read place places x xs e).0
  item_read (place ∷ places) (x ∷ xs) (suc i) e = item_read places xs i (first_read place places x xs e).1

  -- the place of what is read is that of the items
  pub point_read : (q : X → Bool) (places : List P) (xs : List X) (i : ℕ) → map read places ≡ map Some xs
      → i ≤ length places
      → IsPartitionPoint (λ place. passes q (read place) ≡ true) (λ place. passes q (read place) ≡ false) places i
      → IsPartitionPoint (λ x. q x ≡ true) (λ x. q x ≡ false) xs i
  point_read q [] [] i e le point =
      (λ k d low high. absurd (omega (arith, le, high)), λ k d low high. absurd (omega (arith, high)))
  point_read q [] (x ∷ xs) i e le point = cc
  point_read q (place ∷ places) [] i e le point = cc
  point_read q (place ∷ places) (x ∷ xs) i e le point = (
    λ k d low high. let within : k < length (place ∷ places) = omega (arith, le, high) in
        sym (ap (passes q) (same k d within)) ∙ point.0 k place low high,
    λ k d low high. let within : k < length (place ∷ places) = omega (arith, high, lengths) in
        sym (ap (passes q) (same k d within)) ∙ point.1 k place low within,
  )
    where
      lengths : length (place ∷ places) ≡ length (x ∷ xs)
      lengths = sym (length-map (place ∷ places) read) ∙ ap length e ∙ length-map (x ∷ xs) Some

      same : (k : ℕ) (d : X) → k < length (place ∷ places)
          → read (get_or (place ∷ places) k place) ≡ Some (get_or (x ∷ xs) k d)
      same k d within =
          sym (get_or-map read (place ∷ places) k place None within)
          ∙ ap (λ os. get_or os k None) e
          ∙ get_or-map Some (x ∷ xs) k d None (omega (arith, within, lengths))

  -- a test that an item passes where a greater one does
  module _ (q : X → Bool) (less : X → X → Bool) (closed : (x y : X) → less x y ≡ true → q y ≡ true → q x ≡ true) where
    earlier : (x : X) (places : List P) (xs : List X) → map read places ≡ map Some xs → list_all (less x) xs ≡ true
        → (k : ℕ) (d : P) → k < length places → passes q (read (get_or places k d)) ≡ true → q x ≡ true
    earlier x [] xs e above k d low passing = absurd (omega (arith, low))
    earlier x (place ∷ places) [] e above k d low passing = cc
    earlier x (place ∷ places) (y ∷ ys) e above zero d low passing =
        grind (arith, closed x y, (first_read place places y ys e).0)
    earlier x (place ∷ places) (y ∷ ys) e above (suc k) d low passing =
        earlier x places ys (first_read place places y ys e).1 (and_parts (less x y) (list_all (less x) ys) above).1 k d
        (omega (arith, low)) passing

    -- parts the places of ascending items
    pub partitioned : (places : List P) (xs : List X) → map read places ≡ map Some xs → all_pairs less xs ≡ true
        → IsPartitionedBy (λ place. passes q (read place)) places
    partitioned [] xs e pairs i j d le low passing = absurd (omega (arith, low))
    partitioned (place ∷ places) [] e pairs i j d le low passing = cc
    partitioned (place ∷ places) (x ∷ xs) e pairs zero zero d le low passing = passing
    partitioned (place ∷ places) (x ∷ xs) e pairs zero (suc j) d le low passing =
        let first = first_read place places x xs e in
        let within : j < length places = omega (arith, low) in
        grind (arith, first.0, earlier x places xs first.1 (and_parts (list_all (less x) xs) _ pairs).0 j d within)
    partitioned (place ∷ places) (x ∷ xs) e pairs (suc i) zero d le low passing = absurd (omega (arith, le))
    partitioned (place ∷ places) (x ∷ xs) e pairs (suc i) (suc j) d le low passing =
        partitioned places xs (first_read place places x xs e).1
        (and_parts (list_all (less x) xs) (all_pairs less xs) pairs).1 i j d (omega (arith, le)) (omega (arith, low))
        passing

-- at the place where a test parts items the first stands that fails it
pub first_at : {X : Type 0} (p q : X → Bool) → ((x : X) → p x ≡ not (q x)) → (xs : List X) (i : ℕ)
    → IsPartitionPoint (λ x. q x ≡ true) (λ x. q x ≡ false) xs i → slice_get xs i ≡ find p xs
first_at p q other [] i point = refl
first_at p q other (x ∷ xs) zero point =
    let here = point.1 0 x (omega arith) (omega arith) in grind (arith, other x)
first_at p q other (x ∷ xs) (suc i) point =
    let rest = first_at p q other xs i (
      λ k d low high. point.0 (suc k) d (omega arith) (omega (arith, high)),
      λ k d low high. point.1 (suc k) d (omega (arith, low)) (omega (arith, high)),
    ) in
    let here = point.0 0 x (omega arith) (omega arith) in grind (arith, other x)

-- what stands from there on is all that fails it
point_drop : {X : Type 0} (p q : X → Bool) → ((x : X) → p x ≡ not (q x)) → (xs : List X) (i : ℕ) → i ≤ length xs
    → IsPartitionPoint (λ x. q x ≡ true) (λ x. q x ≡ false) xs i → drop i xs ≡ filter p xs
point_drop p q other [] zero le point = refl
point_drop p q other [] (suc i) le point = absurd (omega (arith, le))
point_drop p q other (x ∷ xs) zero le point =
    let rest = point_drop p q other xs zero (omega arith) (
      λ k d low high. absurd (omega (arith, high)),
      λ k d low high. point.1 (suc k) d (omega arith) (omega (arith, high)),
    ) in
    let here = point.1 0 x (omega arith) (omega arith) in grind (arith, other x)
point_drop p q other (x ∷ xs) (suc i) le point =
    let rest = point_drop p q other xs i (omega (arith, le)) (
      λ k d low high. point.0 (suc k) d (omega arith) (omega (arith, high)),
      λ k d low high. point.1 (suc k) d (omega (arith, low)) (omega (arith, high)),
    ) in
    let here = point.0 0 x (omega arith) (omega arith) in grind (arith, other x)

pub point_behind : {X : Type 0} (p q : X → Bool) → ((x : X) → p x ≡ not (q x)) → (xs : List X) (i : ℕ) → i ≤ length xs
    → IsPartitionPoint (λ x. q x ≡ true) (λ x. q x ≡ false) xs i → slice_range xs i (length xs) ≡ filter p xs
point_behind p q other xs i le point =
    take_all (length xs - i) (drop i xs) (omega (arith, length-drop i xs)) ∙ point_drop p q other xs i le point

-- the place of a list is that of what is made of it
pub point_made : {X Y : Type 0} (f : X → Y) (p : Y → Bool) (xs : List X) (i : ℕ) → i ≤ length xs
    → IsPartitionPoint (λ x. p (f x) ≡ true) (λ x. p (f x) ≡ false) xs i
    → IsPartitionPoint (λ y. p y ≡ true) (λ y. p y ≡ false) (map f xs) i
point_made f p [] i le point =
    (λ k d low high. absurd (omega (arith, le, high)), λ k d low high. absurd (omega (arith, high)))
point_made f p (x ∷ xs) i le point = (
  λ k d low high. ap p (get_or-map f (x ∷ xs) k x d (omega (arith, le, high))) ∙ point.0 k x low high,
  λ k d low high. let within : k < length (x ∷ xs) = omega (arith, high, length-map (x ∷ xs) f) in
      ap p (get_or-map f (x ∷ xs) k x d within) ∙ point.1 k x low within,
)

-- where all items pass, the first is found
first_passes : {X : Type 0} (p : X → Bool) (xs : List X) → list_all p xs ≡ true → find p xs ≡ slice_get xs 0
first_passes p [] all = refl
first_passes p (x ∷ xs) all = grind arith

-- Items that ascend by their keys

module _ {X K : Type 0} (key : X → K) (keys : Order K) where
  -- the item of a key, where it is this one
  abbrev pub if_has : K → X → Option X
  if_has k x = cond (keys.same (key x) k) (Some x) None

  place_behind : (k : K) (x : X) (xs : List X) (i : ℕ) → IsPlace key keys k (x ∷ xs) (suc i) → IsPlace key keys k xs i
  place_behind k x xs i place = (
    λ j d low high. place.0 (suc j) d (omega arith) (omega (arith, high)),
    λ j d low high. place.1 (suc j) d (omega (arith, low)) (omega (arith, high)),
  )

  -- behind a greater key all are greater
  all_greater : (k : K) (x : X) (xs : List X) → keys.less k (key x) ≡ true → list_all (before key keys x) xs ≡ true
      → list_all (λ y. keys.less k (key y)) xs ≡ true
  all_greater k x xs more above =
      list_all-weaker (before key keys x) (λ y. keys.less k (key y))
      (λ y e. keys.transitive k (key x) (key y) more e) xs above

  -- so the key is not among them
  none_same : (k : K) (xs : List X) → list_all (λ y. keys.less k (key y)) xs ≡ true
      → list_all (λ y. not (keys.same (key y) k)) xs ≡ true
  none_same k xs above =
      list_all-weaker (λ y. keys.less k (key y)) (λ y. not (keys.same (key y) k))
      (λ y e. not_from_false (keys.same (key y) k) (greater_differs keys k (key y) e)) xs above

  none_left_out : (k : K) (xs : List X) → list_all (λ y. keys.less k (key y)) xs ≡ true
      → without key keys k xs ≡ xs
  none_left_out k xs above = filter_all (λ y. not (keys.same (key y) k)) xs (none_same k xs above)

  -- what comes behind an item of the same key is greater
  behind_same : (k : K) (x : X) (xs : List X) → keys.same (key x) k ≡ true → list_all (before key keys x) xs ≡ true
      → list_all (λ y. keys.less k (key y)) xs ≡ true
  behind_same k x xs e above =
      subst (λ (l : K). list_all (λ y. keys.less l (key y)) xs ≡ true) (keys.equal (key x) k e) above

  -- an item with a lesser key stays, and the change comes behind it
  stays : (k : K) (x : X) (xs : List X) → keys.less (key x) k ≡ true
      → without key keys k (x ∷ xs) ≡ x ∷ without key keys k xs
  stays k x xs low = grind (arith, less_differs keys (key x) k)

  put_behind : (x y : X) (ys : List X) → keys.less (key y) (key x) ≡ true
      → with_item key keys x (y ∷ ys) ≡ y ∷ with_item key keys x ys
  put_behind x y ys low = grind (arith, stays (key x) y ys, (weak_order keys).one_way (key y) (key x))

  -- an item in place of that of its key
  pub put_set : (x : X) (xs : List X) (i : ℕ) → ascend key keys xs ≡ true → IsPlace key keys (key x) xs i
      → passes (λ y. keys.same (key y) (key x)) (slice_get xs i) ≡ true → with_item key keys x xs ≡ set xs i x
  put_set x [] i pairs place here = cc
  put_set x (y ∷ ys) zero pairs place here =
      grind (arith, behind_same (key x) y ys, none_left_out (key x) ys, insert_first (before key keys) x ys)
  put_set x (y ∷ ys) (suc i) pairs place here =
      let low = place.0 0 y (omega arith) (omega arith) in
      grind (arith, put_behind x y ys low, put_set x ys i, place_behind (key x) y ys i place)

  -- where the item at its place has not the key, none has it
  absent : (k : K) (xs : List X) (i : ℕ) → ascend key keys xs ≡ true → IsPlace key keys k xs i
      → passes (λ y. keys.same (key y) k) (slice_get xs i) ≡ false
      → list_all (λ y. not (keys.same (key y) k)) xs ≡ true
  absent k [] i pairs place here = refl
  absent k (y ∷ ys) zero pairs place here =
      let high = place.1 0 y (omega arith) (omega arith) in
      grind (arith, greater keys (key y) k, all_greater k y ys, none_same k (y ∷ ys))
  absent k (y ∷ ys) (suc i) pairs place here =
      let low = place.0 0 y (omega arith) (omega arith) in
      grind (arith, less_differs keys (key y) k low, absent k ys i, place_behind k y ys i place)

  -- so it leaves nothing out
  pub not_there : (k : K) (xs : List X) (i : ℕ) → ascend key keys xs ≡ true → IsPlace key keys k xs i
      → passes (λ y. keys.same (key y) k) (slice_get xs i) ≡ false → without key keys k xs ≡ xs
  not_there k xs i pairs place here = filter_all (λ y. not (keys.same (key y) k)) xs (absent k xs i pairs place here)

  -- an item whose key none has is put at its place
  pub insert_at : (x : X) (xs : List X) (i : ℕ) → i ≤ length xs
      → list_all (λ y. not (keys.same (key y) (key x))) xs ≡ true → IsPlace key keys (key x) xs i
      → insert_by (before key keys) x xs ≡ insert xs i x
  insert_at x [] zero le none place = refl
  insert_at x [] (suc i) le none place = absurd (omega (arith, le))
  insert_at x (y ∷ ys) zero le none place =
      let high = place.1 0 y (omega arith) (omega arith) in
      grind (arith, greater keys (key y) (key x))
  insert_at x (y ∷ ys) (suc i) le none place =
      let low = (weak_order keys).one_way (key y) (key x) (place.0 0 y (omega arith) (omega arith)) in
      grind (arith, insert_at x ys i, place_behind (key x) y ys i place)

  pub put_insert : (x : X) (xs : List X) (i : ℕ) → i ≤ length xs → ascend key keys xs ≡ true
      → IsPlace key keys (key x) xs i → passes (λ y. keys.same (key y) (key x)) (slice_get xs i) ≡ false
      → with_item key keys x xs ≡ insert xs i x
  put_insert x xs i le pairs place here =
      ap (insert_by (before key keys) x) (not_there (key x) xs i pairs place here)
      ∙ insert_at x xs i le (absent (key x) xs i pairs place here) place

  -- the item of a key left out
  pub left_out : (k : K) (xs : List X) (i : ℕ) → ascend key keys xs ≡ true → IsPlace key keys k xs i
      → passes (λ y. keys.same (key y) k) (slice_get xs i) ≡ true → without key keys k xs ≡ remove xs i
  left_out k [] i pairs place here = cc
  left_out k (y ∷ ys) zero pairs place here = grind (arith, behind_same k y ys, none_left_out k ys)
  left_out k (y ∷ ys) (suc i) pairs place here =
      let low = place.0 0 y (omega arith) (omega arith) in
      grind (arith, stays k y ys low, left_out k ys i, place_behind k y ys i place)

  -- the item of a key is the one at its place, where that has the key
  pub item_at : (k : K) (xs : List X) (i : ℕ) → ascend key keys xs ≡ true → IsPlace key keys k xs i
      → item_of key keys k xs ≡ option_and_then (if_has k) (slice_get xs i)
  item_at k [] i pairs place = refl
  item_at k (y ∷ ys) zero pairs place =
      let high = place.1 0 y (omega arith) (omega arith) in
      let none = find_none (λ z. keys.same (key z) k) ys in
      grind (arith, greater keys (key y) k, all_greater k y ys, none_same k ys, none)
  item_at k (y ∷ ys) (suc i) pairs place =
      let low = place.0 0 y (omega arith) (omega arith) in
      grind (arith, less_differs keys (key y) k low, item_at k ys i, place_behind k y ys i place)

  -- the first greater item stands behind that of the key, or at its place
  pub above_at : (k : K) (xs : List X) (i : ℕ) → ascend key keys xs ≡ true → IsPlace key keys k xs i
      → item_above key keys k xs
      ≡ slice_get xs (cond (passes (λ x. keys.same (key x) k) (slice_get xs i)) (suc i) i)
  above_at k [] i pairs place = refl
  above_at k (y ∷ ys) zero pairs place =
      let high = place.1 0 y (omega arith) (omega arith) in
      let first = first_passes (λ x. keys.less k (key x)) ys in
      grind (arith, keys.equal (key y) k, keys.irreflexive k, behind_same k y ys, first, greater keys (key y) k)
  above_at k (y ∷ ys) (suc i) pairs place =
      let low = (weak_order keys).one_way (key y) k (place.0 0 y (omega arith) (omega arith)) in
      grind (arith, above_at k ys i, place_behind k y ys i place)

  -- an item that takes the place of a key is found by it
  pub found_put : (k : K) (x : X) (xs : List X) (i : ℕ) → IsPlace key keys k xs i → i < length xs
      → keys.same (key x) k ≡ true → item_of key keys k (set xs i x) ≡ Some x
  found_put k x [] i place within has = absurd (omega (arith, within))
  found_put k x (y ∷ ys) zero place within has = grind arith
  found_put k x (y ∷ ys) (suc i) place within has =
      let low = less_differs keys (key y) k (place.0 0 y (omega arith) (omega arith)) in
      grind (arith, found_put k x ys i, place_behind k y ys i place)

  -- ascending items are parted at a key
  pub parted : (k : K) (xs : List X) → ascend key keys xs ≡ true
      → IsPartitionedBy (λ x. keys.less (key x) k) xs
  parted k xs pairs =
      partitioned Some (λ x. keys.less (key x) k) (before key keys)
      (λ x y e f. keys.transitive (key x) (key y) k e f) xs xs refl pairs
