use Rattle.std.proofs.Common.{◌∙◌, Bor, List, ap, map, take}
use Rattle.std.proofs.lemmas.Result.{IfOk-weaker}
use Rattle.skk_calls.specs.Completions.{completion_limit, reading_of}
use Rattle.skk_calls.specs.Rows.{Row}
use Rattle.learn_index.proofs.completing.newest_readings.Goals as goal

pub returns : goal.returns
returns c =
    IfOk-weaker c.first_readings.result _ _
    (λ readings is. is
    ∙ ap (λ (rows : List (Bor Row)). take completion_limit (map reading_of (map (λ (row : Bor Row). row.now) rows)))
    c.deref.ensures.value
    ∙ c.in_ok-newest.ensures)
    c.first_readings.ensures
