use Rattle.std.proofs.Common.{rules, slice_get}
use Rattle.std.proofs.lemmas.List.Sorted.{IsPartitionPoint-from_clause}
use Rattle.ordered_lists.specs.Orders.{passes}
use Rattle.ordered_lists.proofs.Indexes.{less_parted, place_found}
use Rattle.ordered_lists.proofs.places.place_of.Goals as goal

pub returns-clause-place : goal.returns-clause-place
returns-clause-place g c those index =
    let keys = g.T.Keyed.keys in
    let key = g.T.Keyed.key in
    let items = c.args.items.now in
    let places = c.args.places.now in
    let sought = g.T.Keyed.sought_key c.args.sought.now in
    place_found key keys items places those index sought c.partition_point.result c.partition_point.ensures.bound
    (IsPartitionPoint-from_clause (λ place. passes (λ item. keys.less (key item) sought) (slice_get items place)) places
    c.partition_point.result c.partition_point.ensures.partitioned
    (less_parted key keys items places those index sought) (λ a r f k. search rules))
