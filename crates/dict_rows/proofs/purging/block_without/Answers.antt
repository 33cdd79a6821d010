use Rattle.std.proofs.Common.{◌≡◌, ◌∙◌, sym, ap}
use Rattle.skk_text.specs.Lists.{is_empty}
use Rattle.skk_calls.specs.Learning.{without_text}
use Rattle.skk_calls.specs.Rows.{is_block}
use Rattle.dict_rows.proofs.Blocks.{left_is_block}
use Rattle.dict_rows.proofs.purging.block_without.Goals as goal

pub new-requires : goal.new-requires
new-requires c =
    let block = c.args.block.now in
    let word = c.args.word.now in
    let words : c.in_ok-words.words ≡ without_text word block.words =
    c.in_ok-words.ensures ∙ ap (without_text word) (c.as_slice.ensures ∙ c.words.ensures.value) in
    ap is_block
    (ap (λ okuri. record { okuri = okuri; words = c.in_ok-words.words }) (c.in_ok-copy.ensures ∙ c.okuri.ensures.value)
    ∙ ap (λ texts. record { okuri = block.okuri; words = texts }) words)
    ∙ left_is_block word block c.words.ensures.valid
    (sym (c.is_empty.ensures ∙ ap is_empty words) ∙ c.if-is_empty.false)
