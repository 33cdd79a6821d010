use Rattle.std.proofs.Common.{◌∙◌, ap, sym}
use Rattle.std.specs.Option.{option_copied}
use Rattle.skk_calls.specs.Learning.{annotated_cands, without_text}
use Rattle.skk_calls.specs.Rows.{is_row}
use Rattle.dict_rows.proofs.Rows.{annotated_parts}
use Rattle.dict_rows.proofs.annotating.annotated_row.Goals as goal

pub new-requires : goal.new-requires
new-requires c =
    let before = option_copied c.args.row in
    let key = c.args.key.now in
    let cand = c.args.cand.now in
    ap is_row
    (sym (annotated_parts before key cand c.args.stamp c.in_ok-copy.field-0 c.in_ok-cands.cands c.in_ok-blocks.blocks
    c.in_ok-hides.hides c.in_ok-copy.ensures
    (c.in_ok-cands.ensures ∙ ap (λ cands. annotated_cands cands cand) (c.cands_of.ensures.value key))
    (c.in_ok-blocks.ensures ∙ c.blocks_of.ensures.value key)
    (c.in_ok-hides.ensures ∙ ap (λ word. without_text word c.hides_of.result.now) c.word.ensures.value
    ∙ ap (without_text cand.word) (c.hides_of.ensures.value key))))
    ∙ c.changed_rows_are_rows.ensures.annotated before key cand c.args.stamp c.reading.ensures.valid c.requires
    c.cands_of.ensures.valid c.word.ensures.valid
