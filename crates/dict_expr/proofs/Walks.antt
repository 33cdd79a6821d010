-- What is left of rows in the order of their keys, for keys that come in that order.
use Rattle.std.proofs.Common.{◌≡◌, ◌∙◌, Bool, true, false, Option, None, Some, List, [], ◌∷◌, ◌++◌, map, refl, ap, sym}
use Rattle.std.proofs.Common.{subst, arith}
use Rattle.std.specs.List.{list_all}
use Rattle.std.proofs.lemmas.Bool.{and_parts}
use Rattle.std.proofs.lemmas.List.{map-append}
use Rattle.skk_text.specs.Pairs.{all_pairs}
use Rattle.ordered_lists.specs.OrderLaws.{greater, greater_differs, less_differs}
use Rattle.skk_calls.specs.OrderLaws.{row_keys}
use Rattle.skk_calls.specs.Orders.{key_less, row_less}
use Rattle.skk_calls.specs.Rows.{Row, RowKey, same_key}
use Rattle.skk_calls.specs.States.{row_in}
use Rattle.dict_expr.proofs.Steps.{ended, if_false, if_true, passed}
use Rattle.dict_expr.specs.Pairs.{paired}
use Rattle.dict_expr.specs.Walking.{first_of, rows_from}

-- no row behind one that is greater has a key
none_above : (key : RowKey) (row : Row) (rows : List Row) → key_less key row.key ≡ true
    → list_all (row_less row) rows ≡ true → row_in key rows ≡ None
none_above key row [] less all = refl
none_above key row (other ∷ rows) less all =
    let parts = and_parts (row_less row other) (list_all (row_less row) rows) all in
    let above : key_less key other.key ≡ true = row_keys.transitive key row.key other.key less parts.0 in
    passed (λ r. same_key r.key key) other rows (greater_differs row_keys key other.key above)
    ∙ none_above key row rows less parts.1

-- the first row whose key is not less is that of the key, where it has one
pub first_is : (key : RowKey) (rows : List Row) → all_pairs row_less rows ≡ true
    → first_of key (rows_from key rows) ≡ row_in key rows
first_is key [] ascend = refl
first_is key (row ∷ rows) ascend =
    let parts = and_parts (list_all (row_less row) rows) (all_pairs row_less rows) ascend in
    by parts.0 (first_is key rows parts.1) (key_less row.key key) refl (same_key row.key key) refl
  where
    by : list_all (row_less row) rows ≡ true → first_of key (rows_from key rows) ≡ row_in key rows
        → (less : Bool) → key_less row.key key ≡ less → (same : Bool) → same_key row.key key ≡ same
        → first_of key (rows_from key (row ∷ rows)) ≡ row_in key (row ∷ rows)
    by above later true below same e =
        ap (first_of key) (if_true (key_less row.key key) (rows_from key rows) (row ∷ rows) below)
        ∙ later
        ∙ sym (passed (λ r. same_key r.key key) row rows (less_differs row_keys row.key key below))
    by above later false not_below true same =
        ap (first_of key) (if_false (key_less row.key key) (rows_from key rows) (row ∷ rows) not_below)
        ∙ if_true (same_key row.key key) (Some row) None same
        ∙ sym (ended (λ r. same_key r.key key) row rows same)
    by above later false not_below false differs =
        ap (first_of key) (if_false (key_less row.key key) (rows_from key rows) (row ∷ rows) not_below)
        ∙ if_false (same_key row.key key) (Some row) None differs
        ∙ sym (none_above key row rows (greater row_keys row.key key differs not_below) above)
        ∙ sym (passed (λ r. same_key r.key key) row rows differs)

-- from there on they ascend still
from_ascend : (key : RowKey) (rows : List Row) → all_pairs row_less rows ≡ true
    → all_pairs row_less (rows_from key rows) ≡ true
from_ascend key [] ascend = refl
from_ascend key (row ∷ rows) ascend = grind (arith, from_ascend key rows)

-- and a later key has the row that it had
pub later_same : (key later : RowKey) (rows : List Row) → key_less key later ≡ true
    → row_in later (rows_from key rows) ≡ row_in later rows
later_same key later [] less = refl
later_same key later (row ∷ rows) less = by (later_same key later rows less) (key_less row.key key) refl
  where
    by : row_in later (rows_from key rows) ≡ row_in later rows → (below : Bool) → key_less row.key key ≡ below
        → row_in later (rows_from key (row ∷ rows)) ≡ row_in later (row ∷ rows)
    by behind true below =
        let before : key_less row.key later ≡ true = row_keys.transitive row.key key later below less in
        ap (row_in later) (if_true (key_less row.key key) (rows_from key rows) (row ∷ rows) below)
        ∙ behind
        ∙ sym (passed (λ r. same_key r.key later) row rows (less_differs row_keys row.key later before))
    by behind false not_below =
        ap (row_in later) (if_false (key_less row.key key) (rows_from key rows) (row ∷ rows) not_below)

-- so do the keys of all later rows
all_later : (row : Row) (rest rows : List Row) → list_all (row_less row) rows ≡ true
    → map (paired (rows_from row.key rest)) rows ≡ map (paired rest) rows
all_later row rest [] all = refl
all_later row rest (other ∷ rows) all =
    let parts = and_parts (row_less row other) (list_all (row_less row) rows) all in
    let here = later_same row.key other.key rest parts.0 in
    let behind = all_later row rest rows parts.1 in
    cc

-- what is left of others has the rows of the keys that come, as all of them have
pub record Stands (others rest rows : List Row) : Type 0 where
  pub rest_ascend : all_pairs row_less rest ≡ true
  pub rows_ascend : all_pairs row_less rows ≡ true
  pub same : map (paired rest) rows ≡ map (paired others) rows

-- at first all of them are left
pub stands_first : (others rows : List Row) → all_pairs row_less others ≡ true → all_pairs row_less rows ≡ true
    → Stands others others rows
stands_first others rows ascend in_order = record { rest_ascend = ascend; rows_ascend = in_order; same = refl }

-- the first of two lists that are equal, and what is behind it
first_same : {X : Type 0} (x y : X) (xs ys : List X) → (x ∷ xs) ≡ (y ∷ ys) → x ≡ y
first_same x y xs ys e = cc

rest_same : {X : Type 0} (x y : X) (xs ys : List X) → (x ∷ xs) ≡ (y ∷ ys) → xs ≡ ys
rest_same x y xs ys e = cc

module _ (others rest : List Row) (row : Row) (rows : List Row) (stands : Stands others rest (row ∷ rows)) where
  -- the first that is left and not less is the one of the next key
  pub found_first : (row, first_of row.key (rows_from row.key rest)) ≡ paired others row
  found_first =
      ap (λ other. (row, other)) (first_is row.key rest stands.rest_ascend)
      ∙ first_same (paired rest row) (paired others row) (map (paired rest) rows) (map (paired others) rows) stands.same

  -- and behind it enough is left
  pub stands_next : Stands others (rows_from row.key rest) rows
  stands_next =
      let parts = and_parts (list_all (row_less row) rows) (all_pairs row_less rows) stands.rows_ascend in
      record {
        rest_ascend = from_ascend row.key rest stands.rest_ascend;
        rows_ascend = parts.1;
        same =
            all_later row rest rows parts.0
            ∙ rest_same (paired rest row) (paired others row) (map (paired rest) rows) (map (paired others) rows)
            stands.same;
      }

-- one step of the walk: the pairs so far with the one of the next row, and what is left behind it
pub walk_on : (others rest left : List Row) (row : Row) (done rows : List Row) (pairs : List (Row × Option Row))
    (found : Option Row) → pairs ≡ map (paired others) done → Stands others rest (row ∷ rows)
    → left ≡ rows_from row.key rest → found ≡ first_of row.key left
    → ((pairs ++ (row, found) ∷ []) ≡ map (paired others) (done ++ row ∷ [])) × Stands others left rows
walk_on others rest left row done rows pairs found so_far stands left_is found_is =
    let pair : (row, found) ≡ paired others row =
    ap (λ other. (row, other)) (found_is ∙ ap (first_of row.key) left_is) ∙ found_first others rest row rows stands in (
      ap (λ before. before ++ (row, found) ∷ []) so_far
          ∙ ap (λ last. map (paired others) done ++ last ∷ []) pair
          ∙ sym (map-append (paired others) done (row ∷ [])),
      subst (λ rs. Stands others rs rows) (sym left_is) (stands_next others rest row rows stands),
    )
