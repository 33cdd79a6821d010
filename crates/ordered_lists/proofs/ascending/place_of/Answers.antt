use Rattle.std.proofs.Common.{rules}
use Rattle.std.proofs.lemmas.List.Sorted.{IsPartitionPoint-from_clause}
use Rattle.ordered_lists.specs.PlaceLaws.{parted}
use Rattle.ordered_lists.proofs.ascending.place_of.Goals as goal

pub returns-clause-place : goal.returns-clause-place
returns-clause-place g c =
    let keys = g.T.Keyed.keys in
    let key = g.T.Keyed.key in
    let sought = g.T.Keyed.sought_key c.args.sought.now in
    IsPartitionPoint-from_clause (λ item. keys.less (key item) sought) c.args.items.now c.partition_point.result
    c.partition_point.ensures.partitioned (parted key keys sought c.args.items.now c.requires) (λ a r f k. search rules)
