use Rattle.std.proofs.Common.{◌≡◌, ◌∙◌, ◌||◌, ℕ, List, ap, Bool, arith}
use Rattle.std.specs.List.{fold}
use Rattle.std.proofs.lemmas.Result.{on_ok_weaker}
use Rattle.skk_calls.specs.Rows.{has_text, words_of}
use Rattle.word_sets.specs.FirstLaws.{texts_fold_new}
use Rattle.word_sets.specs.Firsts.{with_new}
use Rattle.dict_layers.proofs.layer.pass_row.Goals as goal

grouped : (a b c : Bool) → ((a || b) || c) ≡ (a || (b || c))
grouped a b c = grind arith

pub returns-clause-words : goal.returns-clause-words
returns-clause-words c =
    let row = c.args.row.now in
    let old = c.args.passed.now in
    let words : c.pass_cands.new.passed ≡ fold (with_new (λ (t : List ℕ). t)) old (words_of row.cands) =
    c.in_ok-pass_cands.ensures
    ∙ ap (λ cands. fold (with_new (λ (t : List ℕ). t)) old (words_of cands))
    (c.as_slice.ensures ∙ c.cands.ensures.value) in
    let hides = c.as_slice-2.ensures ∙ c.hides.ensures.value in
    on_ok_weaker c.pass_words.result
    (λ passed text.
    ap (λ texts. has_text texts text) passed ∙ texts_fold_new c.pass_cands.new.passed c.as_slice-2.result.now text
    ∙ ap (λ texts. has_text c.pass_cands.new.passed text || has_text texts text) hides
    ∙ ap (λ texts. has_text texts text || has_text row.hides text) words
    ∙ ap (λ b. b || has_text row.hides text) (texts_fold_new old (words_of row.cands) text)
    ∙ grouped (has_text old text) (has_text (words_of row.cands) text) (has_text row.hides text))
    c.pass_words.ensures
