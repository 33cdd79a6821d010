use Rattle.std.proofs.Common.{◌∷◌, ◌∙◌, ap}
use Rattle.skk_calls.specs.Learning.{without_text}
use Rattle.skk_calls.specs.Rows.{is_block}
use Rattle.dict_rows.proofs.Blocks.{chosen_is_block}
use Rattle.dict_rows.proofs.learnt_blocks.chosen_block.Goals as goal

pub new-requires : goal.new-requires
new-requires c =
    let words = c.args.words.now in
    ap is_block
    (ap (λ okuri. record { okuri = okuri; words = c.in_ok-chosen.chosen }) c.in_ok-copy.ensures
    ∙ ap (λ texts. record { okuri = c.args.okuri.now; words = texts })
    (c.in_ok-chosen.ensures ∙ ap (λ word. word ∷ without_text word words) c.word.ensures.value))
    ∙ chosen_is_block c.args.okuri.now c.args.cand.now words c.text.ensures.valid c.word.ensures.valid c.requires.words
    c.requires.differ
