use Rattle.std.proofs.Common.{Some, arith, not, refl, rules}
use Rattle.std.proofs.lemmas.List.Sorted.{IsPartitionPoint-from_clause}
use Rattle.ordered_lists.specs.PlaceLaws.{partitioned, point_behind}
use Rattle.dict_files.specs.FilePlaces.{is_above, rises}
use Rattle.dict_files.proofs.InOrder.{low_closed}
use Rattle.dict_files.proofs.searching.behind_equal.Goals as goal

pub returns : goal.returns
returns c =
    let bytes = c.args.bytes.now in
    let places = c.args.places.now in
    let above = is_above bytes c.args.reading.now in
    let parted = partitioned Some (λ place. not (above place)) (rises bytes) (low_closed bytes c.args.reading.now)
    places places refl c.requires in
    let point = IsPartitionPoint-from_clause (λ place. not (above place)) places _
    c.partition_point-front.ensures.partitioned parted (λ a r f k. search rules) in
    point_behind above (λ place. not (above place)) (λ place. grind arith) places _
    c.partition_point-front.ensures.bound point
