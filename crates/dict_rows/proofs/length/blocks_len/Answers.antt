use Rattle.skk_calls.specs.Canonical.{with_slash, written_block}
use Rattle.dict_rows.proofs.Lengths.{item_more, slashed}
use Rattle.dict_rows.proofs.length.blocks_len.Goals as goal

pub loop-block-preserved : goal.loop-block-preserved
loop-block-preserved c =
    let x = c.block-item.result in
    item_more (λ x. with_slash (written_block x)) c.args.blocks.now c.loop-block.block-index x (written_block x)
    c.loop-block.bytes c.block_len.result c.len.result c.saturating_add.result c.saturating_add-bytes.result
    c.loop-block-test.true c.block-item.is (slashed (written_block x)) c.loop-block.invariant c.block_len.ensures
    c.len.ensures c.saturating_add.ensures c.saturating_add-bytes.ensures
