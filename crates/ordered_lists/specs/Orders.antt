-- Orders of keys, and items in order by their keys.
use Rattle.std.specs.Prelude.{◌≡◌, ℕ, Bool, true, false, not, ◌||◌, if◌then◌else◌, Option, None, Some, List, [], ◌∷◌}
use Rattle.std.specs.Prelude.{find, map, slice_get}
use Rattle.std.specs.List.{filter}
use Rattle.std.specs.List.Sorted.{IsPartitionPoint}
use Rattle.skk_text.specs.Pairs.{all_pairs}

-- an order of keys, with the test that two keys are one: none is less than itself, what is less than a lesser one is
-- less, of two that are not one one is less, and two that are one are equal
pub record Order (K : Type 0) : Type 0 where
  pub less : K → K → Bool
  pub same : K → K → Bool
  pub irreflexive : (key : K) → less key key ≡ false
  pub transitive : (key next last : K) → less key next ≡ true → less next last ≡ true → less key last ≡ true
  pub apart : (key other : K) → same key other ≡ false → (less key other || less other key) ≡ true
  pub equal : (key other : K) → same key other ≡ true → key ≡ other

-- a list that is in order with one more item at its place
abbrev pub insert_by : {X : Type 0} → (X → X → Bool) → X → List X → List X
insert_by before x [] = x ∷ []
insert_by before x (y ∷ ys) = if before x y then x ∷ y ∷ ys else y ∷ insert_by before x ys

-- a list in order
abbrev pub sort_by : {X : Type 0} → (X → X → Bool) → List X → List X
sort_by before [] = []
sort_by before (x ∷ xs) = insert_by before x (sort_by before xs)

-- an item is there and passes the test
abbrev pub passes : {X : Type 0} → (X → Bool) → Option X → Bool
passes test None = false
passes test (Some x) = test x

-- an item is less than another, and where there is none stands before where there is one
abbrev pub option_less : {X : Type 0} → (X → X → Bool) → Option X → Option X → Bool
option_less less None None = false
option_less less None (Some y) = true
option_less less (Some x) None = false
option_less less (Some x) (Some y) = less x y

-- at places of a list these items stand, in this order
abbrev pub HasAt : {X : Type 0} → List X → List ℕ → List X → Type 0
HasAt all places items = map (slice_get all) places ≡ map Some items

module _ {X K : Type 0} (key : X → K) (keys : Order K) where
  -- an item stands before another by its key
  abbrev pub before : X → X → Bool
  before x y = keys.less (key x) (key y)

  -- the items ascend by their keys
  abbrev pub ascend : List X → Bool
  ascend xs = all_pairs before xs

  -- no two items have one key
  abbrev pub differ : List X → Bool
  differ xs = all_pairs (λ x y. not (keys.same (key x) (key y))) xs

  -- the item of a key
  abbrev pub item_of : K → List X → Option X
  item_of k xs = find (λ x. keys.same (key x) k) xs

  -- the first item whose key is greater
  abbrev pub item_above : K → List X → Option X
  item_above k xs = find (λ x. keys.less k (key x)) xs

  -- the items without that of a key
  abbrev pub without : K → List X → List X
  without k xs = filter (λ x. not (keys.same (key x) k)) xs

  -- the items with this one at its place, and none other of its key
  abbrev pub with_item : X → List X → List X
  with_item x xs = insert_by before x (without (key x) xs)

  -- the keys before a place are less than this one, and those from there on are not
  abbrev pub IsPlace : K → List X → ℕ → Type 0
  IsPlace k xs place = IsPartitionPoint (λ x. keys.less (key x) k ≡ true) (λ x. keys.less (key x) k ≡ false) xs place

  -- at the places of a list some of its items stand, of which no two have one key, in order by their keys
  pub record IsIndex (all : List X) (places : List ℕ) (items : List X) : Type 0 where
    pub differ : differ items ≡ true
    pub in_order : HasAt all places (sort_by before items)
