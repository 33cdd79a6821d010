-- The learnings of rows, rank by rank, and the groups in which they are made.
use Rattle.std.proofs.Common.{◌≡◌, ℕ, ◌+◌, ◌<◌, ◌≤◌, zero, suc, arith, Bool, true, false, not, Some, None, Option, List}
use Rattle.std.proofs.Common.{[], ◌∷◌, ◌++◌, length, map, take, drop, ap, ◌∙◌, refl, sym, length-append, length-drop}
use Rattle.std.proofs.Common.{eq-eqb, get_or, subst}
use Rattle.std.specs.List.{All, cons_option, filter, filter_map, flat_map, list_all}
use Rattle.std.specs.Option.{option_map}
use Rattle.std.specs.Prelude.{slice_get}
use Rattle.std.proofs.lemmas.List.{append-nil, length-map, length-take, take-append-drop}
use Rattle.std.proofs.lemmas.List.Concat.{flat_map-append}
use Rattle.std.proofs.lemmas.List.Elements.{All-cons, All-nil}
use Rattle.std.proofs.lemmas.Option.{slice_get-get_or, slice_get_past}
use Rattle.std.proofs.lemmas.Bool.{and_from, and_parts}
use Rattle.std.proofs.lemmas.Bool.Decides.{nat_tests}
use Rattle.skk_text.specs.Counts.{last_count}
use Rattle.skk_text.specs.FilterLaws.{list_all_kept}
use Rattle.skk_text.specs.Pairs.{all_pairs}
use Rattle.skk_text.specs.PairsLaws.{all_pairs-filter, all_pairs-take}
use Rattle.skk_calls.specs.declared.call.Call.{Call}
use Rattle.skk_calls.specs.declared.call.Call.TheVariants.{Learn}
use Rattle.skk_calls.specs.Dictionary.{is_call}
use Rattle.skk_calls.specs.Rows.{Cand, Row, is_cand, is_row, is_row_key, keys_differ, same_key}
use Rattle.skk_calls.specs.States.{State, count_of}
use Rattle.dict_format.specs.PrintedFiles.{in_printing_order}
use Rattle.learn_index.specs.Groups.{IsGroup, book_of_group, group_limit, learn_apart, learns_in}
use Rattle.batch_store.specs.Learnings.{first_groups, groups_below, import_calls, import_groups, in_groups, learning_of}
use Rattle.batch_store.specs.Learnings.{learnings_at, learnings_below, most_cands}
use Rattle.batch_store.specs.Levels.{has_rank, levels_below}

-- A list in groups

module _ {X : Type 0} where
  -- as many groups as there are items are enough, and more are the same
  groups_enough : (most more : ℕ) (xs : List X) → length xs ≤ most → length xs ≤ more
      → first_groups most xs ≡ first_groups more xs
  groups_enough zero zero [] low also = refl
  groups_enough zero (suc more) [] low also = refl
  groups_enough (suc most) zero [] low also = refl
  groups_enough (suc most) (suc more) [] low also = refl
  groups_enough zero more (x ∷ xs) low also = absurd (omega arith)
  groups_enough (suc most) zero (x ∷ xs) low also = absurd (omega arith)
  groups_enough (suc most) (suc more) (x ∷ xs) low also =
      ap (λ (groups : List (List X)). take group_limit (x ∷ xs) ∷ groups)
      (groups_enough most more (drop group_limit (x ∷ xs)) (omega (arith, length-drop group_limit (x ∷ xs)))
      (omega (arith, length-drop group_limit (x ∷ xs))))

  -- an empty list has no group
  pub in_groups-nil : in_groups {X = X} [] ≡ []
  in_groups-nil = refl

  -- any other begins with its first ones, and goes on with the groups of what is left
  pub in_groups-cons : (x : X) (xs : List X)
      → in_groups (x ∷ xs) ≡ take group_limit (x ∷ xs) ∷ in_groups (drop group_limit (x ∷ xs))
  in_groups-cons x xs =
      ap (λ (groups : List (List X)). take group_limit (x ∷ xs) ∷ groups)
      (groups_enough (length xs) (length (drop group_limit (x ∷ xs))) (drop group_limit (x ∷ xs))
      (omega (arith, length-drop group_limit (x ∷ xs))) (omega arith))

  pub in_groups_some : (xs : List X) → 0 < length xs
      → in_groups xs ≡ take group_limit xs ∷ in_groups (drop group_limit xs)
  in_groups_some [] some = absurd (omega (arith, some))
  in_groups_some (x ∷ xs) some = in_groups-cons x xs

  -- of a list that has items, so are its first groups
  pub first_some : (most : ℕ) (xs : List X) → 0 < length xs
      → first_groups (suc most) xs ≡ take group_limit xs ∷ first_groups most (drop group_limit xs)
  first_some most [] some = absurd (omega (arith, some))
  first_some most (x ∷ xs) some = refl

  -- one after another they are the list
  first_joined : (most : ℕ) (xs : List X) → length xs ≤ most → flat_map (λ group. group) (first_groups most xs) ≡ xs
  first_joined zero [] low = refl
  first_joined (suc most) [] low = refl
  first_joined zero (x ∷ xs) low = absurd (omega arith)
  first_joined (suc most) (x ∷ xs) low =
      ap (λ (rest : List X). take group_limit (x ∷ xs) ++ rest)
      (first_joined most (drop group_limit (x ∷ xs)) (omega (arith, length-drop group_limit (x ∷ xs))))
      ∙ take-append-drop group_limit (x ∷ xs)

  pub in_groups_joined : (xs : List X) → flat_map (λ group. group) (in_groups xs) ≡ xs
  in_groups_joined xs = first_joined (length xs) xs (omega arith)

  -- there are items in a group, and no more than it may have
  abbrev pub IsFilled : List X → Type 0
  IsFilled group = (0 < length group) × (length group ≤ group_limit)

  first_filled : (x : X) (xs : List X) → IsFilled (take group_limit (x ∷ xs))
  first_filled x xs =
      (omega (arith, length-take group_limit (x ∷ xs)), omega (arith, length-take group_limit (x ∷ xs)))

  -- so it is with each of them
  groups_filled : (most : ℕ) (xs : List X) → All IsFilled (first_groups most xs)
  groups_filled zero xs = All-nil IsFilled
  groups_filled (suc most) [] = All-nil IsFilled
  groups_filled (suc most) (x ∷ xs) =
      All-cons IsFilled (take group_limit (x ∷ xs)) (first_groups most (drop group_limit (x ∷ xs)))
      (first_filled x xs) (groups_filled most (drop group_limit (x ∷ xs)))

  pub in_groups_filled : (xs : List X) → All IsFilled (in_groups xs)
  in_groups_filled xs = groups_filled (length xs) xs

-- one after another the groups of all ranks are their learnings
pub groups_joined : (book : ℕ) (rows : List Row) (rank : ℕ)
    → flat_map (λ group. group) (groups_below book rows rank) ≡ learnings_below book rows rank
groups_joined book rows zero = refl
groups_joined book rows (suc rank) =
    let calls : List Call = learnings_at book rows rank in
    flat_map-append (λ group. group) (in_groups calls) (groups_below book rows rank)
    ∙ ap (λ (front : List Call). front ++ flat_map (λ group. group) (groups_below book rows rank))
    (in_groups_joined calls)
    ∙ ap (λ (back : List Call). calls ++ back) (groups_joined book rows rank)

pub import_joined : (book : ℕ) (rows : List Row)
    → flat_map (λ group. group) (import_groups book rows) ≡ import_calls book rows
import_joined book rows =
    let printed : List Row = in_printing_order rows in groups_joined book printed (most_cands printed)

-- What is made of some of the items of a list

module _ {X Y : Type 0} (h : X → Option Y) where
  -- where each item passes a test, what is made of them passes another
  list_all-made : (p : X → Bool) (q : Y → Bool) → ((x : X) (y : Y) → h x ≡ Some y → p x ≡ true → q y ≡ true)
      → (xs : List X) → list_all p xs ≡ true → list_all q (filter_map h xs) ≡ true
  list_all-made p q so [] all = refl
  list_all-made p q so (x ∷ xs) all =
      let parts = and_parts (p x) (list_all p xs) all in by (h x) refl parts.0 (list_all-made p q so xs parts.1)
    where
      by : (made : Option Y) → h x ≡ made → p x ≡ true → list_all q (filter_map h xs) ≡ true
          → list_all q (filter_map h (x ∷ xs)) ≡ true
      by None e here rest = rw e rest
      by (Some y) e here rest = rw e (and_from (q y) (list_all q (filter_map h xs)) (so x y e here) rest)

  -- and so it is with each two of them
  all_pairs-made : (t : X → X → Bool) (u : Y → Y → Bool)
      → ((x other : X) (y made : Y) → h x ≡ Some y → h other ≡ Some made → t x other ≡ true → u y made ≡ true)
      → (xs : List X) → all_pairs t xs ≡ true → all_pairs u (filter_map h xs) ≡ true
  all_pairs-made t u so [] pairs = refl
  all_pairs-made t u so (x ∷ xs) pairs =
      let parts = and_parts (list_all (t x) xs) (all_pairs t xs) pairs in
      by (h x) refl parts.0 (all_pairs-made t u so xs parts.1)
    where
      by : (made : Option Y) → h x ≡ made → list_all (t x) xs ≡ true → all_pairs u (filter_map h xs) ≡ true
          → all_pairs u (filter_map h (x ∷ xs)) ≡ true
      by None e here rest = rw e rest
      by (Some y) e here rest =
          rw e (and_from (list_all (u y) (filter_map h xs)) (all_pairs u (filter_map h xs))
          (list_all-made (t x) (u y) (λ other made f passes. so x other y made e f passes) xs here) rest)

module _ {X : Type 0} where
  -- what each item passes, the one at a place passes
  passes_at : (p : X → Bool) (xs : List X) (i : ℕ) (x : X) → list_all p xs ≡ true → slice_get xs i ≡ Some x
      → p x ≡ true
  passes_at p [] i x all at = cc
  passes_at p (y ∷ ys) zero x all at = grind arith
  passes_at p (y ∷ ys) (suc i) x all at =
      passes_at p ys i x (and_parts (p y) (list_all p ys) all).1 at

  -- and those behind a place
  pub list_all-drop : (p : X → Bool) (count : ℕ) (xs : List X) → list_all p xs ≡ true
      → list_all p (drop count xs) ≡ true
  list_all-drop p zero xs all = all
  list_all-drop p (suc count) [] all = refl
  list_all-drop p (suc count) (x ∷ xs) all = list_all-drop p count xs (and_parts (p x) (list_all p xs) all).1

  -- so each two of these stand in the relation in which each two of all do
  pub all_pairs-drop : (t : X → X → Bool) (count : ℕ) (xs : List X) → all_pairs t xs ≡ true
      → all_pairs t (drop count xs) ≡ true
  all_pairs-drop t zero xs pairs = pairs
  all_pairs-drop t (suc count) [] pairs = refl
  all_pairs-drop t (suc count) (x ∷ xs) pairs =
      all_pairs-drop t count xs (and_parts (list_all (t x) xs) (all_pairs t xs) pairs).1

-- The learnings of a rank

module _ (book rank : ℕ) where
  -- a row that has no candidate of the rank has no learning
  learning_none : (row : Row) → has_rank rank row ≡ false → learning_of book rank row ≡ None
  learning_none row none =
      let past : slice_get row.cands rank ≡ None = slice_get_past row.cands rank (grind (arith, nat_tests)) in
      rw past

  -- one that has one has its learning
  learning_some : (row : Row) → has_rank rank row ≡ true
      → (cand : Cand) × (learning_of book rank row ≡ Some (Learn book row.key None cand))
  learning_some row has = by row.cands (grind (arith, nat_tests))
    where
      by : (cands : List Cand) → rank < length cands
          → (cand : Cand) × (option_map (λ cand. Learn book row.key None cand) (slice_get cands rank)
          ≡ Some (Learn book row.key None cand))
      by [] low = absurd (omega (arith, low))
      by (cand ∷ cands) low =
          let at : Cand = get_or (cand ∷ cands) rank cand in
          let is : slice_get (cand ∷ cands) rank ≡ Some at = slice_get-get_or (cand ∷ cands) rank cand low in
          (at, ap (option_map (λ (cand : Cand). Learn book row.key None cand)) is)

  -- a learning of a row learns its candidate of the rank under its key
  learning_is : (row : Row) (call : Call) → learning_of book rank row ≡ Some call
      → (cand : Cand) × (slice_get row.cands rank ≡ Some cand) × (call ≡ Learn book row.key None cand)
  learning_is row call made = by (slice_get row.cands rank) refl
    where
      by : (found : Option Cand) → slice_get row.cands rank ≡ found
          → (cand : Cand) × (slice_get row.cands rank ≡ Some cand) × (call ≡ Learn book row.key None cand)
      by None e = absurd (cc)
      by (Some cand) e = (cand, e, cc)

  -- the rows that have a candidate of the rank have all of its learnings
  pub learnings_ranked : (rows : List Row)
      → learnings_at book (filter (has_rank rank) rows) rank ≡ learnings_at book rows rank
  learnings_ranked [] = refl
  learnings_ranked (row ∷ rows) = grind (arith, learning_none row, learnings_ranked rows)

  module _ (row : Row) (rows : List Row) where
    -- where the first of rows has one, its learning is the first
    learnings_first : has_rank rank row ≡ true
        → (call : Call) × (learnings_at book (row ∷ rows) rank ≡ call ∷ learnings_at book rows rank)
    learnings_first has =
        let one = learning_some row has in (
          Learn book row.key None one.0,
          ap (λ (made : Option Call). cons_option made (learnings_at book rows rank)) one.1,
        )

  -- each row that has a candidate of the rank has one learning
  pub length-learnings : (rows : List Row) → list_all (has_rank rank) rows ≡ true
      → length (learnings_at book rows rank) ≡ length rows
  length-learnings [] all = refl
  length-learnings (row ∷ rows) all =
      let parts = and_parts (has_rank rank row) (list_all (has_rank rank) rows) all in
      let first = learnings_first row rows parts.0 in
      ap length first.1 ∙ ap suc (length-learnings rows parts.1)

  -- so the first ones of such rows have the first learnings
  pub learnings-take : (count : ℕ) (rows : List Row) → list_all (has_rank rank) rows ≡ true
      → learnings_at book (take count rows) rank ≡ take count (learnings_at book rows rank)
  learnings-take zero rows all = refl
  learnings-take (suc count) [] all = refl
  learnings-take (suc count) (row ∷ rows) all =
      let parts = and_parts (has_rank rank row) (list_all (has_rank rank) rows) all in
      let one = learning_some row parts.0 in
      rw one.1 (ap (λ (calls : List Call). Learn book row.key None one.0 ∷ calls) (learnings-take count rows parts.1))

  -- and the others the others
  pub learnings-drop : (count : ℕ) (rows : List Row) → list_all (has_rank rank) rows ≡ true
      → learnings_at book (drop count rows) rank ≡ drop count (learnings_at book rows rank)
  learnings-drop zero rows all = refl
  learnings-drop (suc count) [] all = refl
  learnings-drop (suc count) (row ∷ rows) all =
      let parts = and_parts (has_rank rank row) (list_all (has_rank rank) rows) all in
      let one = learning_some row parts.0 in
      rw one.1 (learnings-drop count rows parts.1)

  -- and groups of such rows the groups of their learnings
  first_groups-learnings : (most : ℕ) (rows : List Row) → list_all (has_rank rank) rows ≡ true
      → first_groups most (learnings_at book rows rank)
      ≡ map (λ group. learnings_at book group rank) (first_groups most rows)
  first_groups-learnings zero rows all = refl
  first_groups-learnings (suc most) [] all = refl
  first_groups-learnings (suc most) (row ∷ rows) all =
      let calls : List Call = learnings_at book (row ∷ rows) rank in
      first_some most calls (omega (arith, length-learnings (row ∷ rows) all))
      ∙ ap (λ (group : List Call). group ∷ first_groups most (drop group_limit calls))
      (sym (learnings-take group_limit (row ∷ rows) all))
      ∙ ap (λ (rest : List Call). learnings_at book (take group_limit (row ∷ rows)) rank ∷ first_groups most rest)
      (sym (learnings-drop group_limit (row ∷ rows) all))
      ∙ ap (λ (groups : List (List Call)). learnings_at book (take group_limit (row ∷ rows)) rank ∷ groups)
      (first_groups-learnings most (drop group_limit (row ∷ rows))
      (list_all-drop (has_rank rank) group_limit (row ∷ rows) all))

  pub in_groups-learnings : (rows : List Row) → list_all (has_rank rank) rows ≡ true
      → in_groups (learnings_at book rows rank) ≡ map (λ group. learnings_at book group rank) (in_groups rows)
  in_groups-learnings rows all =
      ap (λ (most : ℕ). first_groups most (learnings_at book rows rank)) (length-learnings rows all)
      ∙ first_groups-learnings (length rows) rows all

  -- What kind of group they are

  -- they all learn in the book
  pub all_learn : (rows : List Row) → list_all (learns_in book) (learnings_at book rows rank) ≡ true
  all_learn rows =
      list_all-made (learning_of book rank) (λ row. true) (learns_in book) one rows (all_true rows)
    where
      all_true : (rows : List Row) → list_all (λ row. true) rows ≡ true
      all_true [] = refl
      all_true (row ∷ rows) = all_true rows

      one : (row : Row) (call : Call) → learning_of book rank row ≡ Some call → true ≡ true
          → learns_in book call ≡ true
      one row call made passes = let is = learning_is row call made in rw is.2 (eq-eqb book book refl)

  -- where the rows are valid, they are calls
  pub all_calls : (rows : List Row) → list_all is_row rows ≡ true
      → list_all is_call (learnings_at book rows rank) ≡ true
  all_calls rows valid = list_all-made (learning_of book rank) is_row is_call one rows valid
    where
      one : (row : Row) (call : Call) → learning_of book rank row ≡ Some call → is_row row ≡ true
          → is_call call ≡ true
      one row call made valid =
          let is = learning_is row call made in
          let keyed = and_parts (is_row_key row.key) _ valid in
          let cands = and_parts (list_all is_cand row.cands) _ (and_parts _ _ keyed.1).0 in
          rw is.2 (and_from (is_row_key row.key) (is_cand is.0) keyed.0
          (passes_at is_cand row.cands rank is.0 cands.0 is.1))

  -- where the keys of the rows differ, no two of them learn under one key
  pub all_apart : (rows : List Row) → keys_differ rows ≡ true
      → all_pairs learn_apart (learnings_at book rows rank) ≡ true
  all_apart rows differ =
      all_pairs-made (learning_of book rank) (λ row other. not (same_key row.key other.key)) learn_apart two rows
      differ
    where
      two : (row other : Row) (call next : Call) → learning_of book rank row ≡ Some call
          → learning_of book rank other ≡ Some next → not (same_key row.key other.key) ≡ true
          → learn_apart call next ≡ true
      two row other call next made also apart =
          let is = learning_is row call made in
          let then = learning_is other next also in
          rw (is.2, then.2) apart

  -- so those of some rows, no more than a group may have, are a group where the book has the stamps
  pub are_group : (state : State) (rows : List Row) → list_all (has_rank rank) rows ≡ true
      → keys_differ rows ≡ true → 0 < length rows → length rows ≤ group_limit
      → count_of state book + group_limit ≤ last_count → IsGroup state (learnings_at book rows rank)
  are_group state [] all differ some few stamps = absurd (omega (arith, some))
  are_group state (row ∷ rows) all differ some few stamps =
      let calls : List Call = learnings_at book (row ∷ rows) rank in
      let long : length calls ≡ length (row ∷ rows) = length-learnings (row ∷ rows) all in
      let one = learning_some row (and_parts (has_rank rank row) (list_all (has_rank rank) rows) all).0 in
      let own : book_of_group calls ≡ book =
      ap (λ (made : Option Call). book_of_group (cons_option made (learnings_at book rows rank))) one.1 in
      record {
        some = omega (arith, long, some);
        few = omega (arith, long, few);
        learn = subst (λ (n : ℕ). list_all (learns_in n) calls ≡ true) (sym own) (all_learn (row ∷ rows));
        apart = all_apart (row ∷ rows) differ;
        stamps = subst (λ (n : ℕ). count_of state n + group_limit ≤ last_count) (sym own) stamps;
      }

-- The keys of rows

-- where the keys of rows differ, so do those of the ones that a filter keeps, of the first ones and of the others
pub keys_kept : (keeps : Row → Bool) (rows : List Row) → keys_differ rows ≡ true
    → keys_differ (filter keeps rows) ≡ true
keys_kept keeps rows differ = all_pairs-filter (λ row other. not (same_key row.key other.key)) keeps rows differ

pub keys_taken : (count : ℕ) (rows : List Row) → keys_differ rows ≡ true → keys_differ (take count rows) ≡ true
keys_taken count rows differ = all_pairs-take (λ row other. not (same_key row.key other.key)) count rows differ

pub keys_left : (count : ℕ) (rows : List Row) → keys_differ rows ≡ true → keys_differ (drop count rows) ≡ true
keys_left count rows differ = all_pairs-drop (λ row other. not (same_key row.key other.key)) count rows differ

-- How many they are

-- all learnings are as many as the rows of all levels
pub length-learnings_below : (book : ℕ) (rows : List Row) (rank : ℕ)
    → length (learnings_below book rows rank) ≡ length (flat_map (λ level. level) (levels_below rows rank))
length-learnings_below book rows zero = refl
length-learnings_below book rows (suc rank) =
    let level : List Row = filter (has_rank rank) rows in
    let below : List Row = flat_map (λ level. level) (levels_below rows rank) in
    let joined : flat_map (λ level. level) (levels_below rows (suc rank)) ≡ below ++ level =
    flat_map-append (λ level. level) (levels_below rows rank) (level ∷ [])
    ∙ ap (λ (back : List Row). below ++ back) (append-nil level) in
    let here : length (learnings_at book rows rank) ≡ length level =
    sym (ap length (learnings_ranked book rank rows))
    ∙ length-learnings book rank level (list_all_kept (has_rank rank) rows) in
    length-append (learnings_at book rows rank) (learnings_below book rows rank)
    ∙ omega (arith, here, length-learnings_below book rows rank, length-append below level)
    ∙ sym (ap length joined)

-- what levels hold, whatever is made of it, is as much as is made of it
pub length-levels : {L X : Type 0} (items : L → List X) (f : X → Row) (levels : List L)
    → length (flat_map items levels)
    ≡ length (flat_map (λ level. level) (map (λ level. map f (items level)) levels))
length-levels items f [] = refl
length-levels items f (level ∷ levels) =
    length-append (items level) (flat_map items levels)
    ∙ omega (arith, length-map (items level) f, length-levels items f levels)
    ∙ sym (length-append (map f (items level))
    (flat_map (λ level. level) (map (λ level. map f (items level)) levels)))
