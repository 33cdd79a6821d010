-- No key has two rows in a sum, nor in a difference.
use Rattle.std.proofs.Common.{◌≡◌, ◌∙◌, true, not, Option, None, Some, List, [], ◌∷◌, ◌++◌, map, refl, sym, ap}
use Rattle.std.proofs.Common.{arith}
use Rattle.std.specs.List.{list_all}
use Rattle.std.specs.Option.{is_some}
use Rattle.std.proofs.lemmas.List.{map-append}
use Rattle.skk_text.specs.FilterLaws.{list_all_kept, none_found}
use Rattle.skk_text.specs.Pairs.{all_pairs}
use Rattle.skk_text.specs.PairsLaws.{all_pairs-filter, all_pairs-map, list_all-weaker, pairs_appended}
use Rattle.ordered_lists.specs.OrderLaws.{list_all-sort_by}
use Rattle.skk_calls.specs.Orders.{row_less}
use Rattle.skk_calls.specs.Rows.{Row, RowKey, keys_differ, same_key}
use Rattle.skk_calls.specs.States.{row_in}
use Rattle.dict_format.specs.PrintedFiles.{without_stamp}
use Rattle.dict_expr.proofs.ByKey.{joined_key, order_differs}
use Rattle.dict_expr.proofs.Kept.{left_differ, remaining_key}
use Rattle.dict_expr.specs.Books.{difference, in_order, rows_apart, sum}
use Rattle.dict_expr.specs.Rows.{joined, remaining}

abbrev key_of : Row → RowKey
key_of row = row.key

-- rows of the keys of others differ as these do
same_keys : (rows others : List Row) → map key_of rows ≡ map key_of others → keys_differ rows ≡ true
    → keys_differ others ≡ true
same_keys rows others same differ =
    sym (all_pairs-map key_of (λ key other. not (same_key key other)) others)
    ∙ ap (all_pairs (λ key other. not (same_key key other))) (sym same)
    ∙ all_pairs-map key_of (λ key other. not (same_key key other)) rows
    ∙ differ

-- the keys of a sum are those of the first in order, and behind them those of the second that have no row in the first
joined_keys : (others rows : List Row)
    → map key_of (map (λ row. joined row (row_in row.key others)) rows) ≡ map key_of rows
joined_keys others [] = refl
joined_keys others (row ∷ rows) =
    cc (joined_key row (row_in row.key others), joined_keys others rows)

stampless_keys : (rows : List Row) → map key_of (map without_stamp rows) ≡ map key_of rows
stampless_keys [] = refl
stampless_keys (row ∷ rows) = ap (λ keys. row.key ∷ keys) (stampless_keys rows)

sum_keys : (rows others : List Row)
    → map key_of (sum rows others) ≡ map key_of (in_order rows ++ rows_apart (in_order others) rows)
sum_keys rows others =
    map-append key_of (map (λ row. joined row (row_in row.key others)) (in_order rows))
    (map without_stamp (rows_apart (in_order others) rows))
    ∙ ap (λ keys. keys ++ map key_of (map without_stamp (rows_apart (in_order others) rows)))
    (joined_keys others (in_order rows))
    ∙ ap (λ keys. map key_of (in_order rows) ++ keys) (stampless_keys (rows_apart (in_order others) rows))
    ∙ sym (map-append key_of (in_order rows) (rows_apart (in_order others) rows))

-- a row whose key has none elsewhere differs from all there
no_row : (row : Row) (rows : List Row) → not (is_some (row_in row.key rows)) ≡ true
    → list_all (λ other. not (same_key other.key row.key)) rows ≡ true
no_row row rows none = none_found (λ other. same_key other.key row.key) rows (by (row_in row.key rows) refl)
  where
    by : (there : Option Row) → row_in row.key rows ≡ there → row_in row.key rows ≡ None
    by None e = e
    by (Some other) e = grind (arith, none)

-- whichever of two lists is gone through first
split_first : (row : Row) (rows others : List Row)
    → list_all (λ other. list_all (λ r. not (same_key r.key other.key)) (row ∷ rows)) others ≡ true
    → (list_all (λ other. not (same_key row.key other.key)) others ≡ true)
    × (list_all (λ other. list_all (λ r. not (same_key r.key other.key)) rows) others ≡ true)
split_first row rows [] all = (refl, refl)
split_first row rows (other ∷ others) all =
    let later = split_first row rows others (grind arith) in
    (grind (arith, later.0), grind (arith, later.1))

across : (rows others : List Row)
    → list_all (λ other. list_all (λ row. not (same_key row.key other.key)) rows) others ≡ true
    → list_all (λ row. list_all (λ other. not (same_key row.key other.key)) others) rows ≡ true
across [] others all = refl
across (row ∷ rows) others all =
    let parts = split_first row rows others all in
    grind (arith, parts.0, across rows others parts.1)

-- the rows whose keys have none elsewhere differ from those there in any order
apart_differ : (rows others : List Row)
    → list_all (λ row. list_all (λ other. not (same_key row.key other.key)) (rows_apart others rows)) (in_order rows)
    ≡ true
apart_differ rows others =
    across (in_order rows) (rows_apart others rows)
    (list_all-weaker (λ other. not (is_some (row_in other.key rows)))
    (λ other. list_all (λ row. not (same_key row.key other.key)) (in_order rows))
    (λ other none. list_all-sort_by row_less (λ row. not (same_key row.key other.key)) rows (no_row other rows none))
    (rows_apart others rows)
    (list_all_kept (λ other. not (is_some (row_in other.key rows))) others))

-- no key has two rows in a sum
pub sum_differs : (rows others : List Row) → keys_differ rows ≡ true → keys_differ others ≡ true
    → keys_differ (sum rows others) ≡ true
sum_differs rows others first second =
    same_keys (in_order rows ++ rows_apart (in_order others) rows) (sum rows others) (sym (sum_keys rows others))
    (pairs_appended (λ row other. not (same_key row.key other.key)) (in_order rows)
    (rows_apart (in_order others) rows) (order_differs rows first)
    (all_pairs-filter (λ row other. not (same_key row.key other.key))
    (λ row. not (is_some (row_in row.key rows))) (in_order others) (order_differs others second))
    (apart_differ rows (in_order others)))

-- nor in a difference
pub difference_differs : (rows others : List Row) → keys_differ rows ≡ true
    → keys_differ (difference rows others) ≡ true
difference_differs rows others differ =
    left_differ (λ row. remaining row (row_in row.key others))
    (λ row. remaining_key row (row_in row.key others)) (in_order rows) (order_differs rows differ)
