use Rattle.std.proofs.Common.{◌≡◌, ◌∙◌, ◌||◌, ap, sym, Bool, arith}
use Rattle.skk_calls.specs.RowLaws.{row_parts}
use Rattle.skk_calls.specs.Rows.{has_text, words_of}
use Rattle.word_sets.specs.FirstLaws.{texts_fold_new}
use Rattle.dict_layers.proofs.BlockFirst.{block_first_texts}
use Rattle.dict_layers.proofs.layer.pass_block.Goals as goal

grouped : (a b c d : Bool) → ((a || b) || (c || d)) ≡ (a || ((b || c) || d))
grouped a b c d = grind arith

pub returns : goal.returns
returns c = λ text.
    let row = c.args.row.now in
    let block = c.args.block.now in
    let old = c.args.passed.now in
    c.in_ok-pass_row.ensures.words text
    ∙ ap (λ texts. has_text texts text || (has_text (words_of row.cands) text || has_text row.hides text))
    c.in_ok-pass_words.ensures
    ∙ ap (λ b. b || (has_text (words_of row.cands) text || has_text row.hides text))
    (texts_fold_new old c.as_slice.result.now text)
    ∙ ap
    (λ words. (has_text old text || has_text words text)
    || (has_text (words_of row.cands) text || has_text row.hides text))
    (c.as_slice.ensures ∙ c.words.ensures.value)
    ∙ grouped (has_text old text) (has_text block.words text) (has_text (words_of row.cands) text)
    (has_text row.hides text)
    ∙ ap (λ b. has_text old text || (b || has_text row.hides text))
    (sym (block_first_texts row block text (row_parts row c.in_ok-pass_row.ensures.valid).words))
