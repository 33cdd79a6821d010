use Rattle.std.proofs.Common.{◌≡◌, ◌++◌, map, true}
use Rattle.skk_calls.specs.Rows.{texts_differ}
use Rattle.word_sets.specs.Strings.{worded}
use Rattle.word_sets.proofs.word_set.WordSet.into_texts.Given as goal

-- the texts so far and those of the words that are left are those of all
abbrev pub invariant-loop-word : goal.invariant-loop-word
invariant-loop-word l = record {
  all : l.texts ++ map (λ pair. pair.0) (map worded l.word-iterator) ≡ l.fn.self;
  differ : texts_differ l.fn.self ≡ true;
}
