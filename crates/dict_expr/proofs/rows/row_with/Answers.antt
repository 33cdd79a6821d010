use Rattle.std.proofs.Common.{◌≡◌, ◌∙◌, ◌++◌, ap}
use Rattle.skk_calls.specs.Found.{without_hidden}
use Rattle.skk_calls.specs.Rows.{words_of}
use Rattle.dict_expr.proofs.Keeping.{made_with}
use Rattle.dict_expr.specs.Rows.{blocks_with, texts_with}
use Rattle.dict_expr.proofs.rows.row_with.Goals as goal

pub new-requires : goal.new-requires
new-requires c =
    let row = c.args.row.now in
    let other = c.args.other.now in
    let more_cands = c.as_slice-2.result.now in
    let more_blocks = c.as_slice-4.result.now in
    let more_hides = c.as_slice-6.result.now in
    let cands : c.in_ok-cands.cands ≡ row.cands ++ without_hidden (words_of row.cands) other.cands =
    c.in_ok-cands.ensures
    ∙ ap (λ cs. cs ++ without_hidden (words_of cs) more_cands) (c.as_slice.ensures ∙ c.cands.ensures.value)
    ∙ ap (λ cs. row.cands ++ without_hidden (words_of row.cands) cs) (c.as_slice-2.ensures ∙ c.cands-2.ensures.value) in
    let blocks : c.in_ok-blocks.blocks ≡ blocks_with row.blocks other.blocks =
    c.in_ok-blocks.ensures
    ∙ ap (λ bs. blocks_with bs more_blocks) (c.as_slice-3.ensures ∙ c.blocks-2.ensures.value)
    ∙ ap (λ bs. blocks_with row.blocks bs) (c.as_slice-4.ensures ∙ c.blocks-3.ensures.value) in
    let hides : c.in_ok-hides.hides ≡ texts_with row.hides other.hides =
    c.in_ok-hides.ensures
    ∙ ap (λ ts. texts_with ts more_hides) (c.as_slice-5.ensures ∙ c.hides.ensures.value)
    ∙ ap (λ ts. texts_with row.hides ts) (c.as_slice-6.ensures ∙ c.hides-2.ensures.value) in
    made_with row other c.in_ok-copy.field-0 c.in_ok-cands.cands c.in_ok-blocks.blocks c.in_ok-hides.hides
    c.cands.ensures.valid c.cands-2.ensures.valid c.requires (c.in_ok-copy.ensures ∙ c.key.ensures.value)
    cands blocks hides
