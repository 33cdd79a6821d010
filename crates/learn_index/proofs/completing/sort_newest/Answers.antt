use Rattle.std.proofs.Common.{Bor, map, rules}
use Rattle.std.proofs.lemmas.Fn.{always_returns_same}
use Rattle.std.proofs.lemmas.List.Sorted.{IsPermutation-map}
use Rattle.ordered_lists.specs.OrderLaws.{order_read, sorted_once, sorted_read}
use Rattle.skk_calls.specs.Orders.{is_newer}
use Rattle.skk_calls.specs.Rows.{Row}
use Rattle.learn_index.proofs.NewestFirst.{age_order}
use Rattle.learn_index.proofs.completing.sort_newest.Goals as goal

pub returns : goal.returns
returns c =
    let read = λ (row : Bor Row). row.now in
    let before = c.args.rows.now.items in
    let after = c.sort_unstable_by.new.self.items in
    sorted_once is_newer age_order (map read before) (map read after) c.requires
    (IsPermutation-map read before after c.sort_unstable_by.ensures.permutation)
    (sorted_read read is_newer after
    (c.sort_unstable_by.ensures.sorted (λ (row other : Bor Row). is_newer row.now other.now)
    (order_read read is_newer age_order) (always_returns_same _ _ _ (λ a r q k. search rules))))
