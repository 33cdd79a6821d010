use Rattle.std.proofs.Common.{◌≡◌, ◌≤◌, ◌∙◌, Bor, ap, arith, length, map, min, sym, take}
use Rattle.std.proofs.lemmas.List.{take-map, take_all, take_min}
use Rattle.skk_calls.specs.Completions.{completion_limit, reading_of}
use Rattle.skk_calls.specs.Rows.{Row}
use Rattle.learn_index.proofs.completing.first_readings.Goals as goal

pub returns : goal.returns
returns c =
    let rows = c.args.rows.now in
    let read = λ (row : Bor Row). row.now in
    let first = take c.min.result rows in
    let all : length first ≤ c.loop-row.row-index = omega (arith, c.loop-row-test.false) in
    let same : c.min.result ≡ min completion_limit (length rows) = omega (arith, c.min.ensures) in
    c.loop-row.invariant
    ∙ ap (λ those. map reading_of (map read those))
    (take_all c.loop-row.row-index first all ∙ ap (λ n. take n rows) same ∙ take_min completion_limit rows)
    ∙ sym (take-map reading_of completion_limit (map read rows)
    ∙ ap (map reading_of) (take-map read completion_limit rows))
