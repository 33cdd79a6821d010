use Rattle.std.proofs.Common.{◌≡◌, ◌++◌, map, true}
use Rattle.std.specs.List.{list_all}
use Rattle.skk_calls.specs.Rows.{is_cand, texts_differ, words_of}
use Rattle.word_sets.specs.Strings.{as_cand, worded}
use Rattle.word_sets.proofs.cands.WordMap+Text.into_cands.Given as goal

-- the candidates so far and those that are left, each of which is one, are all
abbrev pub invariant-loop-word : goal.invariant-loop-word
invariant-loop-word l = record {
  all : l.cands ++ map as_cand (map worded l.word-iterator) ≡ map as_cand l.fn.self;
  valid : list_all is_cand (map as_cand (map worded l.word-iterator)) ≡ true;
  differ : texts_differ (words_of (map as_cand l.fn.self)) ≡ true;
}
