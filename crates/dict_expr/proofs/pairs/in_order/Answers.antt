use Rattle.std.proofs.Common.{rules, ◌≡◌, ◌∙◌, ap, map, Bor}
use Rattle.std.proofs.lemmas.Fn.{always_returns_same}
use Rattle.std.proofs.lemmas.List.Sorted.{IsPermutation-map}
use Rattle.ordered_lists.specs.OrderLaws.{item_order, items_apart, order_read, sorted_once, sorted_read}
use Rattle.skk_calls.specs.OrderLaws.{row_keys}
use Rattle.skk_calls.specs.Orders.{row_less}
use Rattle.skk_calls.specs.Rows.{Row}
use Rattle.skk_text.specs.Pairs.{all_pairs}
use Rattle.dict_expr.proofs.ByKey.{order_ascends}
use Rattle.dict_expr.proofs.pairs.in_order.Goals as goal

-- the sort moves the rows, and there is one way to sort them
pub returns-clause-order : goal.returns-clause-order
returns-clause-order c =
    let sorted = c.sort_unstable_by.new.self.items in
    let order = item_order (λ (row : Row). row.key) row_keys in
    let kept : map (λ row. row.now) c.in_ok-rows.rows.items ≡ c.args.book.now =
    c.in_ok-rows.ensures ∙ c.as_slice.ensures ∙ c.rows.ensures.value in
    sorted_once row_less order c.args.book.now (map (λ row. row.now) sorted)
    (items_apart (λ (row : Row). row.key) row_keys c.args.book.now c.rows.ensures.valid)
    (rw kept at
    (IsPermutation-map (λ row. row.now) c.in_ok-rows.rows.items sorted c.sort_unstable_by.ensures.permutation))
    (sorted_read (λ row. row.now) row_less sorted
    (c.sort_unstable_by.ensures.sorted (λ (row other : Bor Row). row_less row.now other.now)
    (order_read (λ row. row.now) row_less order) (always_returns_same _ _ _ (λ a r q k. search rules))))

-- and in order they ascend
pub returns-clause-ascend : goal.returns-clause-ascend
returns-clause-ascend c =
    ap (all_pairs row_less) (returns-clause-order c) ∙ order_ascends c.args.book.now c.rows.ensures.valid
