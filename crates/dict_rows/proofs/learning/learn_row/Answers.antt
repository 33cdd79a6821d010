use Rattle.std.proofs.Common.{◌∙◌, ap, sym}
use Rattle.std.specs.Option.{option_copied}
use Rattle.skk_calls.specs.Learning.{learnt_blocks, learnt_cands, without_text}
use Rattle.skk_calls.specs.Rows.{is_row}
use Rattle.dict_rows.proofs.Rows.{learnt_parts}
use Rattle.dict_rows.proofs.learning.learn_row.Goals as goal

pub new-requires : goal.new-requires
new-requires c =
    let before = option_copied c.args.row in
    let okuri = option_copied c.args.okuri in
    let key = c.args.key.now in
    let cand = c.args.cand.now in
    ap is_row
    (sym (learnt_parts before key okuri cand c.args.stamp c.in_ok-copy.field-0 c.in_ok-cands.cands c.in_ok-blocks.blocks
    c.in_ok-hides.hides c.in_ok-copy.ensures
    (c.in_ok-cands.ensures ∙ ap (λ cands. learnt_cands cands cand) (c.cands_of.ensures.value key))
    (c.in_ok-blocks.ensures.value
    ∙ ap (λ part. learnt_blocks part okuri cand.word c.blocks_of.result.now) c.part.ensures.value
    ∙ ap (learnt_blocks key.part okuri cand.word) (c.blocks_of.ensures.value key))
    (c.in_ok-hides.ensures ∙ ap (λ word. without_text word c.hides_of.result.now) c.word-word.ensures.value
    ∙ ap (without_text cand.word) (c.hides_of.ensures.value key))))
    ∙ c.changed_rows_are_rows.ensures.learnt before key okuri cand c.args.stamp c.part.ensures.valid c.requires
    c.cands_of.ensures.valid c.in_ok-blocks.ensures.valid c.word-word.ensures.valid
