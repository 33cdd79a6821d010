use Rattle.std.proofs.Common.{◌∙◌, ap}
use Rattle.skk_calls.specs.Learning.{is_row_before}
use Rattle.skk_calls.specs.Rows.{RowKey}
use Rattle.skk_calls.specs.States.{row_at}
use Rattle.learn_index.proofs.Planned.{before_valid}
use Rattle.learn_index.proofs.planning.learning_reply.Goals as goal

pub new-requires : goal.new-requires
new-requires c =
    ap (is_row_before c.in_ok-key.key c.args.stamp) (c.in_ok-before.ensures ∙ c.row.ensures)
    ∙ ap (λ (key : RowKey). is_row_before key c.args.stamp (row_at c.args.index.now.state c.args.book c.args.key.now))
    c.in_ok-key.ensures
    ∙ before_valid c.args.index.now.state c.args.book c.args.key.now c.args.stamp c.requires.valid c.requires.later
