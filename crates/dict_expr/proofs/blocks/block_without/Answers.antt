use Rattle.std.proofs.Common.{◌≡◌, ◌∙◌, sym, ap}
use Rattle.skk_text.specs.Lists.{is_empty}
use Rattle.skk_calls.specs.Rows.{is_block}
use Rattle.dict_expr.specs.Rows.{texts_without}
use Rattle.dict_expr.proofs.Keeping.{block_less}
use Rattle.dict_expr.proofs.blocks.block_without.Goals as goal

pub new-requires : goal.new-requires
new-requires c =
    let block = c.args.block.now in
    let others = c.words_in.result.now in
    let words : c.in_ok-words.words ≡ texts_without block.words others =
    c.in_ok-words.ensures ∙ ap (λ texts. texts_without texts others) (c.as_slice.ensures ∙ c.words.ensures.value) in
    ap is_block
    (ap (λ okuri. record { okuri = okuri; words = c.in_ok-words.words }) (c.in_ok-copy.ensures ∙ c.okuri.ensures.value)
    ∙ ap (λ texts. record { okuri = block.okuri; words = texts }) words)
    ∙ block_less block others c.words.ensures.valid
    (sym (c.is_empty.ensures ∙ ap is_empty words) ∙ c.if-is_empty.false)
