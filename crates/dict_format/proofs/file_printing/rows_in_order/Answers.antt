use Rattle.std.proofs.Common.{rules, ◌≡◌, ap, ◌∙◌, map, Bor}
use Rattle.std.specs.List.{filter}
use Rattle.std.proofs.lemmas.Fn.{always_returns_same}
use Rattle.std.proofs.lemmas.List.Sorted.{IsPermutation-map}
use Rattle.skk_calls.specs.declared.row.Row.{Row}
use Rattle.dict_format.specs.PrintedFiles.{is_of, is_printed_before}
use Rattle.skk_calls.specs.OrderLaws.{order_read, sorted_once, sorted_read}
use Rattle.dict_format.proofs.PrintingOrder.{part_order, part_apart}
use Rattle.dict_format.proofs.file_printing.rows_in_order.Goals as goal

-- the sort moves the rows of the part, and there is one way to sort them
pub returns-clause-order : goal.returns-clause-order
returns-clause-order c =
    let part = c.args.part in
    let before = is_printed_before part in
    let sorted = c.sort_unstable_by.new.self.items in
    let kept : map (λ row. row.now) c.in_ok-rows.rows.items ≡ filter (is_of part) c.args.book.now =
    c.in_ok-rows.ensures.kept ∙ ap (filter (is_of part)) (c.as_slice.ensures ∙ c.rows.ensures.value) in
    sorted_once before (part_order part) (filter (is_of part) c.args.book.now) (map (λ row. row.now) sorted)
    (part_apart part c.args.book.now c.rows.ensures.valid)
    (rw kept at
    (IsPermutation-map (λ row. row.now) c.in_ok-rows.rows.items sorted c.sort_unstable_by.ensures.permutation))
    (sorted_read (λ row. row.now) before sorted
    (c.sort_unstable_by.ensures.sorted (λ (row other : Bor Row). before row.now other.now)
    (order_read (λ row. row.now) before (part_order part)) (always_returns_same _ _ _ (λ a r q k. search rules))))
