use Rattle.std.proofs.Common.{◌≡◌, ◌∙◌, ap}
use Rattle.skk_calls.specs.Rows.{is_block}
use Rattle.dict_expr.specs.Rows.{texts_with}
use Rattle.dict_expr.proofs.Keeping.{block_more}
use Rattle.dict_expr.proofs.blocks.block_with.Goals as goal

pub new-requires : goal.new-requires
new-requires c =
    let block = c.args.block.now in
    let others = c.words_in.result.now in
    let words : c.in_ok-words.words ≡ texts_with block.words others =
    c.in_ok-words.ensures ∙ ap (λ texts. texts_with texts others) (c.as_slice.ensures ∙ c.words.ensures.value) in
    ap is_block
    (ap (λ okuri. record { okuri = okuri; words = c.in_ok-words.words }) (c.in_ok-copy.ensures ∙ c.okuri.ensures.value)
    ∙ ap (λ texts. record { okuri = block.okuri; words = texts }) words)
    ∙ block_more block others c.words.ensures.valid c.words_in.ensures.words c.words_in.ensures.differ
