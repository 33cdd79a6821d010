use Rattle.std.proofs.Common.{rules}
use Rattle.std.proofs.lemmas.Fn.{always_returns_same}
use Rattle.ordered_lists.specs.OrderLaws.{item_order, items_apart, sorted_once}
use Rattle.ordered_lists.specs.Orders.{before}
use Rattle.learn_index.specs.Ages.{age, age_keys}
use Rattle.learn_index.proofs.ByStamp.{ages_differ}
use Rattle.learn_index.proofs.by_stamp.sort_oldest.Goals as goal

pub returns : goal.returns
returns c =
    let rows = c.args.rows.now.items in
    sorted_once (before age age_keys) (item_order age age_keys) rows c.sort_unstable_by.new.self.items
    (items_apart age age_keys rows (ages_differ rows c.requires)) c.sort_unstable_by.ensures.permutation
    (c.sort_unstable_by.ensures.sorted (before age age_keys) (item_order age age_keys)
    (always_returns_same _ _ _ (λ a r q k. search rules)))
