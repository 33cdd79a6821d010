use Rattle.std.proofs.Common.{◌≡◌, ◌∙◌, ap, arith}
use Rattle.std.specs.Option.{option_copied}
use Rattle.skk_calls.specs.Found.{block_of}
use Rattle.skk_calls.specs.Rows.{Block}
use Rattle.dict_expr.proofs.Steps.{given_more}
use Rattle.dict_expr.specs.Rows.{block_without, left_block, texts_without, words_in}
use Rattle.dict_expr.proofs.blocks.blocks_without.Goals as goal

pub loop-block-preserved : goal.loop-block-preserved
loop-block-preserved c =
    let others = c.args.others.now in
    let block = c.block-item.result in
    let other : option_copied c.block_at-other.result ≡ block_of block.okuri others =
    c.block_at-other.ensures ∙ ap (λ okuri. block_of okuri others) c.okuri.ensures.value in
    let given : c.in_ok-block_without.field-0 ≡ left_block (block_without others block) =
    c.in_ok-block_without.ensures
    ∙ ap (λ o. left_block (record { okuri = block.okuri; words = texts_without block.words (words_in o) })) other in
    given_more (λ (b : Block). left_block (block_without others b)) c.args.blocks.now c.loop-block.block-index block
    c.loop-block.left c.push_some.new.list c.in_ok-block_without.field-0 (omega arith) c.block-item.is
    c.loop-block.invariant given c.in_ok-push_some.ensures
