use Rattle.std.proofs.Common.{◌∙◌, Bor, List, ap, map, take}
use Rattle.std.proofs.lemmas.Result.{IfOk-weaker}
use Rattle.skk_calls.specs.Completions.{completion_limit, reading_of}
use Rattle.skk_calls.specs.Orders.{is_newer, sort_by}
use Rattle.skk_calls.specs.Rows.{Row}
use Rattle.learn_index.proofs.Walks.{walked}
use Rattle.learn_index.proofs.completing.newest_rows.Goals as goal

pub returns-in-Some : goal.returns-in-Some
returns-in-Some c =
    walked c.args.prefix.now c.args.rows.now (map (λ (row : Bor Row). row.now) c.in-Some.newest.items) c.args.by_stamp
    c.requires.ascend c.requires.stamps (c.in_ok-newest.ensures c.in-Some.newest c.in-Some.is)

pub returns-in-None : goal.returns-in-None
returns-in-None c =
    IfOk-weaker c.sorted_rows.result _ _
    (λ newest is. ap (λ (rows : List Row). take completion_limit (map reading_of rows))
    (is ∙ ap (sort_by is_newer) c.rows_from-from.ensures.completing))
    c.sorted_rows.ensures
