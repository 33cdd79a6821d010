use Rattle.std.proofs.Common.{◌≡◌, take}
use Rattle.std.specs.List.{fold}
use Rattle.word_sets.specs.Firsts.{with_new}
use Rattle.dict_layers.proofs.layer.pass_words.Given as goal

-- the words so far were passed
abbrev pub invariant-loop-word : goal.invariant-loop-word
invariant-loop-word l = l.passed ≡ fold (with_new (λ text. text)) l.fn.passed (take l.word-index l.words)
