use Rattle.std.proofs.Common.{◌∙◌, ap, sym}
use Rattle.std.specs.Option.{option_copied}
use Rattle.skk_calls.specs.Learning.{blocks_without, hides_with, without_word}
use Rattle.skk_calls.specs.Rows.{is_row}
use Rattle.dict_rows.proofs.Rows.{purged_parts}
use Rattle.dict_rows.proofs.purging.purged_row.Goals as goal

pub new-requires : goal.new-requires
new-requires c =
    let before = option_copied c.args.row in
    let key = c.args.key.now in
    let word = c.args.word.now in
    ap is_row
    (sym (purged_parts before key word c.args.stamp c.in_ok-copy.field-0 c.in_ok-cands.cands c.in_ok-blocks.blocks
    c.in_ok-hides.hides c.in_ok-copy.ensures
    (c.in_ok-cands.ensures ∙ ap (without_word word) (c.cands_of.ensures.value key))
    (c.in_ok-blocks.ensures ∙ ap (blocks_without word) (c.blocks_of.ensures.value key))
    (c.in_ok-hides.ensures ∙ ap (hides_with word) (c.hides_of.ensures.value key))))
    ∙ c.changed_rows_are_rows.ensures.purged before key word c.args.stamp c.reading.ensures.valid c.requires
    c.cands_of.ensures.valid
