-- Rows with their places, in one order or another, and without the first.
use Rattle.std.proofs.Common.{◌≡◌, true, false, Bool, cond, Option, None, Some, List, [], ◌∷◌}
use Rattle.std.proofs.Common.{◌++◌, refl, sym, ap, subst, ◌∙◌, arith}
use Rattle.std.proofs.lemmas.List.{append_assoc, map-append}
use Rattle.std.proofs.lemmas.List.Sorted.{Contains-permutation, IsPermutation-map, IsPermutation-sym}
use Rattle.std.proofs.lemmas.Map.Entries.{lookup_head, lookup_tail}
use Rattle.std.proofs.lemmas.Map.Keys.{IsDistinct-IsPermutation, IsDistinct-head, IsDistinct-tail}
use Rattle.std.proofs.lemmas.Map.Views.{Contains-from_lookup, lookup-from_Contains}
use Rattle.std.specs.Cmp.{IsEquivalence, eq_by_cmp_equiv}
use Rattle.std.specs.List.{AllByRecursion, IsDistinct}
use Rattle.std.specs.List.Sorted.{IsPermutation}
use Rattle.std.specs.Map.{keys_of, lookup}
use Rattle.std.specs.Ordering.{eq_by_cmp, is_eq}
use Rattle.skk_calls.specs.KeyLaws.{same_key_equal}
use Rattle.skk_calls.specs.Rows.{Row}
use Rattle.learned_store.specs.declared.placed_row.PlacedRow.{PlacedRow}
use Rattle.learned_store.specs.declared.row_place.RowPlace.{RowPlace}
use Rattle.learned_store.specs.Gathering.{placed_entries, are_apart, row_placed}
use Rattle.learned_store.specs.RowPlaces.{place_cmp, place_tied, place_total}

-- places are one where their order says so
place_one : (place other : RowPlace) → eq_by_cmp place_cmp place other ≡ true → place ≡ other
place_one place other same =
    grind (arith, place_tied place other, same_key_equal place.key other.key)

places_one : IsEquivalence (eq_by_cmp place_cmp)
places_one = eq_by_cmp_equiv place_total

-- rows that are put in another order are found as before
module _ (entries moved : List (RowPlace × Row)) (same : IsPermutation entries moved)
    (apart : IsDistinct (eq_by_cmp place_cmp) (keys_of entries)) where
  moved_apart : IsDistinct (eq_by_cmp place_cmp) (keys_of moved)
  moved_apart =
      IsDistinct-IsPermutation (eq_by_cmp place_cmp) places_one.symm (keys_of entries) (keys_of moved)
      (IsPermutation-map (λ (entry : RowPlace × Row). entry.0) entries moved same) apart

  found_moved : (place : RowPlace)
      → lookup (eq_by_cmp place_cmp place) moved ≡ lookup (eq_by_cmp place_cmp place) entries
  found_moved place =
      by (lookup (eq_by_cmp place_cmp place) entries) (lookup (eq_by_cmp place_cmp place) moved) refl refl
    where
      kept : (row : Row) → lookup (eq_by_cmp place_cmp place) entries ≡ Some row
          → lookup (eq_by_cmp place_cmp place) moved ≡ Some row
      kept row there =
          lookup-from_Contains places_one place row moved moved_apart
          (Contains-permutation entries moved (place, row) same
          (Contains-from_lookup place_one place row entries there))

      back : (row : Row) → lookup (eq_by_cmp place_cmp place) moved ≡ Some row
          → lookup (eq_by_cmp place_cmp place) entries ≡ Some row
      back row there =
          lookup-from_Contains places_one place row entries apart
          (Contains-permutation moved entries (place, row) (IsPermutation-sym entries moved same)
          (Contains-from_lookup place_one place row moved there))

      by : (before after : Option Row) → lookup (eq_by_cmp place_cmp place) entries ≡ before
          → lookup (eq_by_cmp place_cmp place) moved ≡ after → after ≡ before
      by (Some row) after e f = sym f ∙ kept row e
      by None None e f = refl
      by None (Some row) e f = sym (back row f) ∙ e

-- so are rows with their places
module _ (rows moved : List PlacedRow) (same : IsPermutation rows moved) (apart : are_apart rows) where
  entries_same : IsPermutation (placed_entries rows) (placed_entries moved)
  entries_same = IsPermutation-map (λ (row : PlacedRow). (row.place, row.row)) rows moved same

  pub sorted_apart : are_apart moved
  sorted_apart = moved_apart (placed_entries rows) (placed_entries moved) entries_same apart

  pub sorted_found : (place : RowPlace) → row_placed moved place ≡ row_placed rows place
  sorted_found = found_moved (placed_entries rows) (placed_entries moved) entries_same apart

-- a row with its place is added
pub placed_next : (before : List PlacedRow) (next : PlacedRow) (place : RowPlace) (row : Row)
    (rest entries : List (RowPlace × Row)) → next.place ≡ place → next.row ≡ row
    → placed_entries before ++ (place, row) ∷ rest ≡ entries → placed_entries (before ++ next ∷ []) ++ rest ≡ entries
placed_next before next place row rest entries own said is =
    ap (λ (l : List (RowPlace × Row)). l ++ rest)
    (map-append (λ (one : PlacedRow). (one.place, one.row)) before (next ∷ []))
    ∙ append_assoc (placed_entries before) ((next.place, next.row) ∷ []) rest
    ∙ ap (λ (p : RowPlace). placed_entries before ++ (p, next.row) ∷ rest) own
    ∙ ap (λ (r : Row). placed_entries before ++ (place, r) ∷ rest) said ∙ is

-- what passes no test is not found
not_found : (test : RowPlace → Bool) (entries : List (RowPlace × Row))
    → AllByRecursion (λ place. test place ≡ false) (keys_of entries) → lookup test entries ≡ None
not_found test [] none = refl
not_found test (entry ∷ entries) none = lookup_tail test entry entries none.0 ∙ not_found test entries none.1

module _ (first : PlacedRow) (rest : List PlacedRow) where
  -- the first row is found at its place
  first_there : row_placed (first ∷ rest) first.place ≡ Some first.row
  first_there =
      lookup_head (eq_by_cmp place_cmp first.place) (first.place, first.row) (placed_entries rest)
      (places_one.refl first.place)

  -- the others have none there, and at each other place what stood there
  first_taken : are_apart (first ∷ rest) → (other : RowPlace)
      → row_placed rest other
      ≡ cond (is_eq (place_cmp first.place other)) None (row_placed (first ∷ rest) other)
  first_taken apart other =
      grind (
        arith,
        none,
        place_one first.place other,
        places_one.symm first.place other,
        lookup_tail (eq_by_cmp place_cmp other) (first.place, first.row) (placed_entries rest),
      )
    where
      none : row_placed rest first.place ≡ None
      none =
          not_found (eq_by_cmp place_cmp first.place) (placed_entries rest)
          (IsDistinct-head (eq_by_cmp place_cmp) first.place (keys_of (placed_entries rest)) apart)

-- of rows that begin with one
module _ (rows rest : List PlacedRow) (first : PlacedRow) (is : rows ≡ first ∷ rest) where
  pub begin_there : row_placed rows first.place ≡ Some first.row
  begin_there = ap (λ (l : List PlacedRow). row_placed l first.place) is ∙ first_there first rest

  module _ (apart : are_apart rows) where
    all_apart : are_apart (first ∷ rest)
    all_apart = subst are_apart is apart

    pub rest_apart : are_apart rest
    rest_apart = IsDistinct-tail (eq_by_cmp place_cmp) first.place (keys_of (placed_entries rest)) all_apart

    pub begin_taken : (other : RowPlace) → row_placed rest other
        ≡ cond (is_eq (place_cmp first.place other)) None (row_placed rows other)
    begin_taken other =
        first_taken first rest all_apart other
        ∙ ap (λ (l : List PlacedRow). cond (is_eq (place_cmp first.place other)) None (row_placed l other)) (sym is)
