use Rattle.std.proofs.Common.{◌≡◌, map}
use Rattle.std.specs.List.{fold}
use Rattle.word_sets.specs.Firsts.{with_new}
use Rattle.candidate_state.specs.Shown.{has_texts, text_of, with_word}
use Rattle.candidate_state.proofs.numbered.FirstTexts.add_words.Given as goal

-- the candidates so far were added with their words
abbrev pub invariant-loop-cand : goal.invariant-loop-cand
invariant-loop-cand l = record {
  cands : l.self.cands ≡ fold (with_new text_of) l.fn.self.cands (map with_word l.yielded);
  texts : has_texts l.self;
}
