-- The definitions at small lists, each worked out by hand.
use Rattle.std.proofs.Common.{◌≡◌, ℕ, true, false, nat_lt, Option, None, Some, List, [], ◌∷◌, map, refl}
use Rattle.ordered_lists.specs.KeyOrders.{bytes_less, byte_keys, number_keys}
use Rattle.ordered_lists.specs.Orders.{insert_by, sort_by, passes, option_less, HasAt, before, ascend, differ, item_of}
use Rattle.ordered_lists.specs.Orders.{item_above, without, with_item, IsIndex}

-- Keys

-- bytes stand before what goes on from them, and else by the first that differ
bytes_before : map (λ (pair : List ℕ × List ℕ). bytes_less pair.0 pair.1) (
    ([], []) ∷ ([], 0 ∷ []) ∷ (0 ∷ [], []) ∷ (1 ∷ [], 1 ∷ []) ∷ (1 ∷ [], 2 ∷ []) ∷ (2 ∷ [], 1 ∷ [])
    ∷ (1 ∷ [], 1 ∷ 0 ∷ []) ∷ (1 ∷ 0 ∷ [], 1 ∷ []) ∷ (1 ∷ 9 ∷ [], 2 ∷ []) ∷ (2 ∷ [], 1 ∷ 9 ∷ [])
    ∷ (1 ∷ 2 ∷ [], 1 ∷ 1 ∷ []) ∷ (127 ∷ [], 128 ∷ [])
    ∷ [])
    ≡ false ∷ true ∷ false ∷ false ∷ true ∷ false ∷ true ∷ false ∷ true ∷ false ∷ false ∷ true ∷ []
bytes_before = refl

bytes_same : map (λ (pair : List ℕ × List ℕ). byte_keys.same pair.0 pair.1)
    (([], []) ∷ ([], 0 ∷ []) ∷ (1 ∷ 2 ∷ [], 1 ∷ 2 ∷ []) ∷ (1 ∷ 2 ∷ [], 1 ∷ []) ∷ (1 ∷ [], 2 ∷ []) ∷ [])
    ≡ true ∷ false ∷ true ∷ false ∷ false ∷ []
bytes_same = refl

numbers_before : map (λ key. number_keys.less key 2) (0 ∷ 1 ∷ 2 ∷ 3 ∷ []) ≡ true ∷ true ∷ false ∷ false ∷ []
numbers_before = refl

numbers_same : map (λ key. number_keys.same key 2) (0 ∷ 1 ∷ 2 ∷ 3 ∷ []) ≡ false ∷ false ∷ true ∷ false ∷ []
numbers_same = refl

-- Lists in order

-- an item comes before the first that it is less than, and at the end where there is none
at_place : map (λ n. insert_by nat_lt n (2 ∷ 4 ∷ [])) (1 ∷ 3 ∷ 5 ∷ [])
    ≡ (1 ∷ 2 ∷ 4 ∷ []) ∷ (2 ∷ 3 ∷ 4 ∷ []) ∷ (2 ∷ 4 ∷ 5 ∷ []) ∷ []
at_place = refl

in_order : map (sort_by nat_lt) ([] ∷ (1 ∷ []) ∷ (2 ∷ 1 ∷ []) ∷ (3 ∷ 1 ∷ 4 ∷ 2 ∷ []) ∷ (1 ∷ 2 ∷ 3 ∷ []) ∷ [])
    ≡ [] ∷ (1 ∷ []) ∷ (1 ∷ 2 ∷ []) ∷ (1 ∷ 2 ∷ 3 ∷ 4 ∷ []) ∷ (1 ∷ 2 ∷ 3 ∷ []) ∷ []
in_order = refl

-- what is not there passes no test, and stands before what is there
there_and_passes : map (passes (λ n. nat_lt n 2)) (None ∷ Some 1 ∷ Some 2 ∷ []) ≡ false ∷ true ∷ false ∷ []
there_and_passes = refl

none_before : map (λ (pair : Option ℕ × Option ℕ). option_less nat_lt pair.0 pair.1)
    ((None, None) ∷ (None, Some 0) ∷ (Some 0, None) ∷ (Some 0, Some 1) ∷ (Some 1, Some 0) ∷ (Some 1, Some 1) ∷ [])
    ≡ false ∷ true ∷ false ∷ true ∷ false ∷ false ∷ []
none_before = refl

at_places : HasAt {X = ℕ} (5 ∷ 6 ∷ 7 ∷ []) (2 ∷ 0 ∷ []) (7 ∷ 5 ∷ [])
at_places = refl

-- Items with keys

-- an item, whose key is its first number
abbrev Item : Type 0
Item = ℕ × ℕ

abbrev key : Item → ℕ
key item = item.0

-- items that do not ascend, and these in order
abbrev items : List Item
items = (3, 0) ∷ (1, 1) ∷ (2, 2) ∷ []

abbrev ordered : List Item
ordered = (1, 1) ∷ (2, 2) ∷ (3, 0) ∷ []

keys_before : map (λ item. before key number_keys item (2, 2)) ((1, 3) ∷ (2, 0) ∷ (3, 0) ∷ [])
    ≡ true ∷ false ∷ false ∷ []
keys_before = refl

-- items with lesser keys before them, with equal ones, and with a greater one before the last
some_ascend : map (ascend key number_keys)
    ([] ∷ ((1, 0) ∷ []) ∷ ordered ∷ ((1, 0) ∷ (1, 1) ∷ []) ∷ ((2, 0) ∷ (1, 0) ∷ []) ∷ ((1, 0) ∷ (3, 0) ∷ (2, 0) ∷ [])
    ∷ [])
    ≡ true ∷ true ∷ true ∷ false ∷ false ∷ false ∷ []
some_ascend = refl

some_differ : map (differ key number_keys)
    ([] ∷ items ∷ ((1, 0) ∷ (1, 1) ∷ []) ∷ ((1, 0) ∷ (2, 0) ∷ (1, 0) ∷ []) ∷ [])
    ≡ true ∷ true ∷ false ∷ false ∷ []
some_differ = refl

items_of_keys : map (λ k. item_of key number_keys k items) (0 ∷ 1 ∷ 2 ∷ 3 ∷ 4 ∷ [])
    ≡ None ∷ Some (1, 1) ∷ Some (2, 2) ∷ Some (3, 0) ∷ None ∷ []
items_of_keys = refl

items_above : map (λ k. item_above key number_keys k ordered) (0 ∷ 1 ∷ 2 ∷ 3 ∷ [])
    ≡ Some (1, 1) ∷ Some (2, 2) ∷ Some (3, 0) ∷ None ∷ []
items_above = refl

left_out : map (λ k. without key number_keys k items) (2 ∷ 4 ∷ []) ≡ ((3, 0) ∷ (1, 1) ∷ []) ∷ items ∷ []
left_out = refl

-- an item comes at its place, and in the place of that of its key
put : map (λ item. with_item key number_keys item ordered) ((2, 5) ∷ (0, 5) ∷ (4, 5) ∷ [])
    ≡ ((1, 1) ∷ (2, 5) ∷ (3, 0) ∷ []) ∷ ((0, 5) ∷ ordered)
    ∷ ((1, 1) ∷ (2, 2) ∷ (3, 0) ∷ (4, 5) ∷ []) ∷ []
put = refl

-- the places of all items, and of some
index : IsIndex key number_keys items (1 ∷ 2 ∷ 0 ∷ []) items
index = record { differ = refl; in_order = refl }

index_of_some : IsIndex key number_keys items (1 ∷ 0 ∷ []) ((3, 0) ∷ (1, 1) ∷ [])
index_of_some = record { differ = refl; in_order = refl }
