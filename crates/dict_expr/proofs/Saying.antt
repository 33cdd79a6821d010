-- The rows of a sum and of a difference say something, where those that they are made of do.
use Rattle.std.proofs.Common.{◌≡◌, Bool, true, false, not, ◌&&◌, Option, None, Some, List, [], ◌∷◌, ◌++◌, map}
use Rattle.std.proofs.Common.{refl}
use Rattle.std.proofs.Common.{arith}
use Rattle.std.specs.List.{list_all}
use Rattle.std.specs.Option.{is_some}
use Rattle.std.proofs.lemmas.List.Folds.{list_all-append}
use Rattle.skk_text.specs.FilterLaws.{list_all_found}
use Rattle.skk_text.specs.Lists.{is_empty}
use Rattle.skk_text.specs.PairsLaws.{list_all-filter}
use Rattle.ordered_lists.specs.OrderLaws.{list_all-sort_by}
use Rattle.skk_calls.specs.Found.{without_hidden}
use Rattle.skk_calls.specs.Orders.{row_less}
use Rattle.skk_calls.specs.Rows.{Row, has_text, is_word, same_key, words_of}
use Rattle.skk_calls.specs.States.{row_in}
use Rattle.dict_format.specs.PrintedFiles.{without_stamp}
use Rattle.dict_expr.proofs.Keeping.{with_all}
use Rattle.dict_expr.proofs.Kept.{left_all}
use Rattle.dict_expr.specs.Books.{difference, in_order, rows_apart, says_something, sum}
use Rattle.dict_expr.specs.Rows.{block_with, blocks_apart, joined, remaining, row_with, row_without, says_nothing}
use Rattle.dict_expr.specs.Rows.{texts_without, unless_nothing}

-- a list with more is empty where both are
empty-append : {X : Type 0} (xs ys : List X) → is_empty (xs ++ ys) ≡ (is_empty xs && is_empty ys)
empty-append [] ys = refl
empty-append (x ∷ xs) ys = refl

empty-map : {X Y : Type 0} (f : X → Y) (xs : List X) → is_empty (map f xs) ≡ is_empty xs
empty-map f [] = refl
empty-map f (x ∷ xs) = refl

-- a row with another says something where it does, and the hidden words of both are words
says_with : (row other : Row) → says_something row ≡ true → says_something other ≡ true
    → says_something (row_with row other) ≡ true
says_with row other says more =
    grind (
      arith,
      empty-append row.cands (without_hidden (words_of row.cands) other.cands),
      empty-append (map (block_with other.blocks) row.blocks) (blocks_apart other.blocks row.blocks),
      empty-map (block_with other.blocks) row.blocks,
      empty-append row.hides (texts_without other.hides row.hides),
      with_all is_word row.hides other.hides,
    )

says_joined : (row : Row) (others : List Row) (found : Option Row) → row_in row.key others ≡ found
    → says_something row ≡ true → list_all says_something others ≡ true
    → says_something (joined row found) ≡ true
says_joined row others None is says all = grind (arith, says)
says_joined row others (Some other) is says all =
    says_with row other says
    (list_all_found says_something (λ r. same_key r.key row.key) others other all is)

says_each : (others rows : List Row) → list_all says_something others ≡ true → list_all says_something rows ≡ true
    → list_all says_something (map (λ row. joined row (row_in row.key others)) rows) ≡ true
says_each others [] all each = refl
says_each others (row ∷ rows) all each =
    grind (
      arith,
      says_joined row others (row_in row.key others) refl (grind arith) all,
      says_each others rows all (grind arith),
    )

says_stampless : (rows : List Row) → list_all says_something rows ≡ true
    → list_all says_something (map without_stamp rows) ≡ true
says_stampless [] all = refl
says_stampless (row ∷ rows) all = grind (arith, says_stampless rows)

-- each row of a sum says something
pub sum_says : (rows others : List Row) → list_all says_something rows ≡ true → list_all says_something others ≡ true
    → list_all says_something (sum rows others) ≡ true
sum_says rows others first second =
    let apart = rows_apart (in_order others) rows in
    let one = says_each others (in_order rows) second (list_all-sort_by row_less says_something rows first) in
    let two = says_stampless apart (list_all-filter says_something (λ row. not (is_some (row_in row.key rows)))
    (in_order others) (list_all-sort_by row_less says_something others second)) in
    grind (
      arith,
      one,
      two,
      list_all-append says_something (map (λ row. joined row (row_in row.key others)) (in_order rows))
          (map without_stamp apart),
    )

-- what is left of a row says something
unless_says : (row left : Row) → list_all is_word row.hides ≡ true → unless_nothing row ≡ Some left
    → says_something left ≡ true
unless_says row left words e = by (says_nothing row) refl
  where
    by : (b : Bool) → says_nothing row ≡ b → says_something left ≡ true
    by true nothing = grind (arith, e, nothing)
    by false nothing = grind (arith, e, nothing, words)

says_left : (row : Row) (other : Option Row) (left : Row) → says_something row ≡ true
    → remaining row other ≡ Some left → says_something left ≡ true
says_left row None left says e = grind (arith, says, e)
says_left row (Some other) left says e =
    unless_says (row_without row other) left
    (list_all-filter is_word (λ text. not (has_text other.hides text)) row.hides (grind (arith, says))) e

-- and so does each of a difference
pub difference_says : (rows others : List Row) → list_all says_something rows ≡ true
    → list_all says_something (difference rows others) ≡ true
difference_says rows others all =
    left_all (λ row. remaining row (row_in row.key others)) says_something says_something
    (λ row left. says_left row (row_in row.key others) left) (in_order rows)
    (list_all-sort_by row_less says_something rows all)
