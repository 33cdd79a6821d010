use Rattle.std.proofs.Common.{◌≡◌, ℕ, Bool, true, false, not, Some, List, arith, encode_utf8_all, refl, rules}
use Rattle.std.proofs.Common.{slice_range}
use Rattle.std.proofs.lemmas.List.Sorted.{IsPartitionPoint-from_clause}
use Rattle.ordered_lists.specs.PlaceLaws.{partitioned, point_behind}
use Rattle.dict_files.specs.declared.place.Place.{Place}
use Rattle.dict_files.specs.FilePlaces.{is_behind, is_passed, reading_at, rises}
use Rattle.dict_files.proofs.InOrder.{passed_closed}
use Rattle.dict_files.proofs.Marks.{block_long, block_parted, block_point, marks_parted}
use Rattle.dict_files.proofs.searching.behind.Goals as goal

-- what is not passed is behind
not_passed : (equal : Bool) (bytes reading : List ℕ) (place : Place)
    → is_behind equal bytes reading place ≡ not (is_passed equal reading (reading_at bytes place))
not_passed true bytes reading place = grind arith
not_passed false bytes reading place = refl

pub returns : goal.returns
returns c =
    let bytes = c.args.bytes.now in
    let places = c.args.places.now in
    let marks = c.args.marks.now in
    let reading = c.args.reading.now in
    let equal = c.args.equal in
    let test = λ (other : List ℕ). is_passed equal reading other in
    let passed = λ (place : Place). test (reading_at bytes place) in
    let block = c.block_behind-block.result in
    let ends = c.block_behind-block.ensures in
    let parted = partitioned Some passed (rises bytes) (passed_closed bytes equal reading) places places refl
    c.requires.rise in
    let marked = IsPartitionPoint-from_clause (λ mark. test (encode_utf8_all mark)) marks _
    c.partition_point-marked.ensures.partitioned (marks_parted bytes places marks c.requires.marks test parted)
    (λ a r f k. search rules) in
    let inner = IsPartitionPoint-from_clause passed (slice_range places block.start block.end) _
    c.partition_point-front.ensures.partitioned
    (block_parted bytes places marks c.requires.marks test parted block.start block.end (omega (arith, ends.end)))
    (λ a r f k. search rules) in
    let point = block_point bytes places marks c.requires.marks test parted _ block.start block.end _
    c.partition_point-marked.ensures.bound marked ends.end ends.start c.partition_point-front.ensures.bound inner in
    point_behind (is_behind equal bytes reading) passed (not_passed equal bytes reading) places _
    (omega (
      arith,
      ends.end,
      ends.start,
      c.partition_point-front.ensures.bound,
      block_long block.start block.end places (omega (arith, ends.end)),
    )) point
