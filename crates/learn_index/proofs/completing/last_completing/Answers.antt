use Rattle.std.proofs.Common.{◌≡◌, ◌+◌, ◌<◌, ◌≤◌, ◌∙◌, Bor, List, ap, length, map, reverse, take, arith}
use Rattle.std.proofs.lemmas.List.{length-map, length-reverse}
use Rattle.std.specs.List.{filter}
use Rattle.skk_calls.specs.Completions.{completes, completion_limit}
use Rattle.skk_calls.specs.Rows.{Row}
use Rattle.learn_index.proofs.Rooms.{some_items}
use Rattle.learn_index.proofs.Walks.{enough_found, next_found}
use Rattle.learn_index.proofs.completing.last_completing.Goals as goal
use Rattle.learn_index.proofs.completing.last_completing.Goals.{In_ok-add_completing}

-- the row that comes next is found where it completes the prefix
next : (c : In_ok-add_completing) → map (λ (row : Bor Row). row.now) c.add_completing.new.newest.items
    ≡ filter (completes c.args.prefix.now) (take (c.loop-step.step + 1) (reverse c.args.stamps.now))
next c =
    let stamps = c.args.stamps.now in
    let low : c.loop-step.step < length (reverse stamps) =
    omega (arith, length-reverse stamps, c.min-step-end.ensures, c.loop-step-test.true) in
    c.in_ok-add_completing.ensures
    ∙ next_found (completes c.args.prefix.now) (reverse stamps) c.loop-step.step
    (map (λ (row : Bor Row). row.now) c.loop-step.newest.items) c.from_end.result.now c.loop-step.invariant low
    c.from_end.ensures

pub loop-step-preserved : goal.loop-step-preserved
loop-step-preserved c = next (goal.at.loop-step-preserved c).In_ok-add_completing

pub returns-then-len-ge-COMPLETION_LIMIT : goal.returns-then-len-ge-COMPLETION_LIMIT
returns-then-len-ge-COMPLETION_LIMIT c newest is =
    let items = c.add_completing.new.newest.items in
    let many : completion_limit ≤ length (map (λ (row : Bor Row). row.now) items) =
    omega (
      arith,
      length-map items (λ (row : Bor Row). row.now),
      c.if-len-ge-COMPLETION_LIMIT.true,
      c.len.ensures,
      c.add_completing.new.newest.ok,
    ) in
    ap (λ (those : List (Bor Row)). take completion_limit (map (λ (row : Bor Row). row.now) those))
    (some_items c.add_completing.new.newest newest is)
    ∙ enough_found (completes c.args.prefix.now) (reverse c.args.stamps.now) (c.loop-step.step + 1)
    (map (λ (row : Bor Row). row.now) items) completion_limit
    (next (goal.at.returns-then-len-ge-COMPLETION_LIMIT c).In_ok-add_completing) many
