-- The rows of a sum and of a difference, key by key.
use Rattle.std.proofs.Common.{◌≡◌, ◌∙◌, true, not, Option, None, Some, List, [], ◌∷◌, map, refl, ap, arith}
use Rattle.std.specs.Option.{option_and_then, option_or}
use Rattle.std.proofs.lemmas.List.Folds.{find-append}
use Rattle.skk_text.specs.FilterLaws.{find_passes}
use Rattle.skk_text.specs.Pairs.{all_pairs}
use Rattle.skk_text.specs.PairsLaws.{pairs_weaker}
use Rattle.skk_calls.specs.KeyLaws.{same_key_equal}
use Rattle.skk_calls.specs.OrderLaws.{row_keys}
use Rattle.skk_calls.specs.Orders.{row_less}
use Rattle.skk_calls.specs.Rows.{Row, RowKey, keys_differ, same_key}
use Rattle.skk_calls.specs.States.{row_in}
use Rattle.ordered_lists.specs.OrderLaws.{items_ascend, less_differs, same_in_order}
use Rattle.dict_format.specs.PrintedFiles.{without_stamp}
use Rattle.dict_expr.proofs.Kept.{left_in, remaining_key}
use Rattle.dict_expr.specs.Books.{difference, in_order, rows_apart, sum}
use Rattle.dict_expr.specs.Rows.{joined, minus_row, plus_row, remaining}

-- rows in order ascend, so that they differ, and each key has the row that it had
pub order_ascends : (rows : List Row) → keys_differ rows ≡ true → all_pairs row_less (in_order rows) ≡ true
order_ascends rows differ = items_ascend (λ (row : Row). row.key) row_keys rows differ

pub order_differs : (rows : List Row) → keys_differ rows ≡ true → keys_differ (in_order rows) ≡ true
order_differs rows differ =
    pairs_weaker row_less (λ row other. not (same_key row.key other.key))
    (λ row other less. ap not (less_differs row_keys row.key other.key less))
    (in_order rows) (order_ascends rows differ)

pub order_keeps : (key : RowKey) (rows : List Row) → keys_differ rows ≡ true
    → row_in key (in_order rows) ≡ row_in key rows
order_keeps key rows differ = same_in_order (λ (row : Row). row.key) row_keys key rows differ

-- a row with another keeps its key
pub joined_key : (row : Row) (other : Option Row) → (joined row other).key ≡ row.key
joined_key row None = refl
joined_key row (Some other) = refl

-- what a key has of the rows that are joined
abbrev joined_in : Option Row → Option Row → Option Row
joined_in None other = None
joined_in (Some row) other = Some (joined row other)

in_joined : (key : RowKey) (others rows : List Row)
    → row_in key (map (λ row. joined row (row_in row.key others)) rows)
    ≡ joined_in (row_in key rows) (row_in key others)
in_joined key others [] = refl
in_joined key others (row ∷ rows) =
    grind (
      arith,
      same_key_equal row.key key,
      joined_key row (row_in row.key others),
      in_joined key others rows,
    )

-- what a key has of the rows whose keys have none elsewhere
abbrev apart_in : Option Row → Option Row → Option Row
apart_in (Some row) other = None
apart_in None None = None
apart_in None (Some other) = Some (without_stamp other)

in_apart : (key : RowKey) (others rows : List Row)
    → row_in key (map without_stamp (rows_apart rows others)) ≡ apart_in (row_in key others) (row_in key rows)
in_apart key others [] = by (row_in key others)
  where
    by : (found : Option Row) → None ≡ apart_in found None
    by None = refl
    by (Some row) = refl
in_apart key others (row ∷ rows) =
    grind (arith, same_key_equal row.key key, in_apart key others rows)

both : (row other : Option Row) → option_or (joined_in row other) (apart_in row other) ≡ plus_row row other
both None None = refl
both None (Some other) = refl
both (Some row) other = refl

-- each key has its row in a sum
pub sum_by_key : (key : RowKey) (rows others : List Row) → keys_differ rows ≡ true → keys_differ others ≡ true
    → row_in key (sum rows others) ≡ plus_row (row_in key rows) (row_in key others)
sum_by_key key rows others first second =
    grind (
      arith,
      find-append (λ (row : Row). same_key row.key key)
          (map (λ row. joined row (row_in row.key others)) (in_order rows))
          (map without_stamp (rows_apart (in_order others) rows)),
      in_joined key others (in_order rows),
      in_apart key rows (in_order others),
      order_keeps key rows first,
      order_keeps key others second,
      both (row_in key rows) (row_in key others),
    )

-- what the row of a key leaves is what is left for this key
left_of : (key : RowKey) (others : List Row) (found : Option Row)
    → ((row : Row) → found ≡ Some row → same_key row.key key ≡ true)
    → option_and_then (λ row. remaining row (row_in row.key others)) found ≡ minus_row found (row_in key others)
left_of key others None is = refl
left_of key others (Some row) is =
    ap (λ k. remaining row (row_in k others)) (same_key_equal row.key key (is row refl))

-- each key has its row in a difference
pub difference_by_key : (key : RowKey) (rows others : List Row) → keys_differ rows ≡ true
    → row_in key (difference rows others) ≡ minus_row (row_in key rows) (row_in key others)
difference_by_key key rows others differ =
    left_in (λ row. remaining row (row_in row.key others)) (λ row. remaining_key row (row_in row.key others)) key
    (in_order rows) (order_differs rows differ)
    ∙ ap (option_and_then (λ row. remaining row (row_in row.key others))) (order_keeps key rows differ)
    ∙ left_of key others (row_in key rows) (find_passes (λ row. same_key row.key key) rows)
