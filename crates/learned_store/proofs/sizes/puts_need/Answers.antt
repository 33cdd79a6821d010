use Rattle.std.proofs.Common.{◌∙◌, ap}
use Rattle.skk_calls.specs.Dictionary.{line_length}
use Rattle.learned_store.proofs.BookRecords.{put_more}
use Rattle.learned_store.proofs.sizes.puts_need.Goals as goal

pub loop-row-preserved : goal.loop-row-preserved
loop-row-preserved c =
    put_more c.args.rows.now c.loop-row.row-index c.row-item.result c.loop-row.bytes c.saturating_add.result
    c.line_length.result c.saturating_add-bytes.result c.loop-row-test.true c.row-item.is c.loop-row.invariant
    c.saturating_add.ensures (c.line_length.ensures ∙ ap line_length c.row.ensures.value)
    c.saturating_add-bytes.ensures
