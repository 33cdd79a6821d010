use Rattle.std.proofs.Common.{◌∙◌, ◌++◌, [], map, sym}
use Rattle.std.proofs.lemmas.List.Sums.{fold-append}
use Rattle.word_sets.specs.FirstLaws.{first_of_each-fold}
use Rattle.word_sets.specs.Firsts.{with_new}
use Rattle.candidate_state.specs.Shown.{text_of, with_fill, with_word}
use Rattle.candidate_state.proofs.numbered.numbered_list.Goals as goal

pub returns-clause-cands : goal.returns-clause-cands
returns-clause-cands c =
    let words = map with_word c.args.found.plain.cands in
    let fills = map (with_fill c.args.numbers.now c.args.firsts.now) c.args.found.numbered.cands in
    c.in_ok-add_filled.ensures.cands
    ∙ rw (
      c.in_ok-add_words.ensures.cands,
      c.new-shown.ensures.cands,
      c.into_cands.ensures.value,
      c.into_cands-2.ensures.value,
    ) (sym (first_of_each-fold text_of (words ++ fills) ∙ fold-append (with_new text_of) [] words fills))
