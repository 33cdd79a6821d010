use Rattle.std.proofs.Common.{◌∙◌, not, rules, slice_get}
use Rattle.std.proofs.lemmas.List.Sorted.{IsPartitionPoint-from_clause}
use Rattle.ordered_lists.specs.Orders.{passes}
use Rattle.ordered_lists.proofs.Indexes.{above_found, low_parted}
use Rattle.ordered_lists.proofs.places.Places.item_above.Goals as goal

pub returns : goal.returns
returns g c those index =
    let keys = g.T.Keyed.keys in
    let key = g.T.Keyed.key in
    let items = c.args.items.now in
    let places = c.args.self.now in
    let sought = g.T.Keyed.sought_key c.args.sought.now in
    let bound = rw (c.deref.ensures.value, c.self.view_is) at c.partition_point-index.ensures.bound in
    let clause = rw (c.deref.ensures.value, c.self.view_is) at c.partition_point-index.ensures.partitioned in
    let point =
    IsPartitionPoint-from_clause (λ at. passes (λ item. not (keys.less sought (key item))) (slice_get items at)) places
    _ clause (low_parted key keys items places those index sought) (λ a r f k. search rules) in
    (rw (c.deref-2.ensures.value, c.self.view_is) at c.item_at.ensures)
    ∙ above_found key keys items places those index sought _ bound point
