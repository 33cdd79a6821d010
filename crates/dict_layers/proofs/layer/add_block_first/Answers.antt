use Rattle.std.proofs.Common.{◌∙◌, ◌++◌, ℕ, List, [], ap, sym}
use Rattle.std.specs.List.{fold}
use Rattle.std.proofs.lemmas.Result.{on_ok_weaker}
use Rattle.skk_calls.specs.Found.{without_hidden}
use Rattle.skk_calls.specs.RowLaws.{row_parts}
use Rattle.skk_calls.specs.Rows.{words_of}
use Rattle.word_sets.specs.Firsts.{with_new}
use Rattle.dict_layers.specs.Blocks.{with_notes}
use Rattle.dict_layers.proofs.BlockFirst.{block_first_added, words_passed}
use Rattle.dict_layers.proofs.layer.add_block_first.Goals as goal

pub add_words-requires-clause-known : goal.add_words-requires-clause-known
add_words-requires-clause-known c =
    let noted = c.as_slice-noted.ensures ∙ c.cands.ensures.value in
    c.in_ok-pass_cands.ensures
    ∙ ap (λ texts. fold (with_new (λ (text : List ℕ). text)) texts (words_of c.as_slice-noted.result.now))
    c.new-known.ensures
    ∙ ap (λ cands. fold (with_new (λ (text : List ℕ). text)) [] (words_of cands)) noted
    ∙ words_passed c.args.row.now.cands (row_parts c.args.row.now c.cands.ensures.valid).words
    ∙ ap words_of (sym noted)

pub returns-clause-shown : goal.returns-clause-shown
returns-clause-shown c =
    let noted = c.as_slice-noted.ensures ∙ c.cands.ensures.value in
    let words = c.as_slice-words.ensures ∙ c.words.ensures.value in
    let passed = c.args.passed.now in
    on_ok_weaker c.add_others.result
    (λ added.
    block_first_added c.args.row.now c.args.block.now c.args.cands.now c.add_words.new.cands c.add_others.new.cands
    passed c.pass_words.new.passed
    (c.in_ok-add_words.ensures
    ∙ ap (λ cands. c.args.cands.now ++ without_hidden passed (with_notes cands c.as_slice-words.result.now)) noted
    ∙ ap (λ texts. c.args.cands.now ++ without_hidden passed (with_notes c.args.row.now.cands texts)) words)
    (c.in_ok-pass_words.ensures
    ∙ ap (λ texts. fold (with_new (λ (text : List ℕ). text)) texts c.as_slice-words.result.now) c.new-first.ensures
    ∙ ap (fold (with_new (λ (text : List ℕ). text)) []) words)
    (added
    ∙ ap
    (λ cands. c.add_words.new.cands ++ without_hidden passed (without_hidden c.pass_words.new.passed cands)) noted))
    c.add_others.ensures
