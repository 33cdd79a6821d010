use Rattle.std.proofs.Common.{◌∙◌, ap, not}
use Rattle.std.specs.List.{filter, list_all}
use Rattle.skk_calls.specs.Completions.{completes}
use Rattle.skk_calls.specs.Orders.{key_less, plain_key}
use Rattle.skk_calls.specs.Rows.{Row}
use Rattle.skk_calls.specs.States.{rows_ascend}
use Rattle.learn_index.proofs.NewestFirst.{all_behind, behind_ascends, behind_high, completing_behind}
use Rattle.learn_index.proofs.completing.rows_from.Goals as goal

pub returns-clause-ascend : goal.returns-clause-ascend
returns-clause-ascend c =
    ap rows_ascend (all_behind c.args.rows.now c.place_of.result)
    ∙ behind_ascends c.args.prefix.now c.args.rows.now c.place_of.result c.requires

pub returns-clause-high : goal.returns-clause-high
returns-clause-high c =
    ap (list_all (λ (row : Row). not (key_less row.key (plain_key c.args.prefix.now))))
    (all_behind c.args.rows.now c.place_of.result)
    ∙ behind_high c.args.prefix.now c.args.rows.now c.place_of.result c.place_of.ensures.place

pub returns-clause-completing : goal.returns-clause-completing
returns-clause-completing c =
    ap (filter (completes c.args.prefix.now)) (all_behind c.args.rows.now c.place_of.result)
    ∙ completing_behind c.args.prefix.now c.args.rows.now c.place_of.result c.place_of.ensures.place
    c.place_of.ensures.bound
