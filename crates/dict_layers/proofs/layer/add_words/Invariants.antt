use Rattle.std.proofs.Common.{◌≡◌, ◌++◌, take}
use Rattle.skk_calls.specs.Found.{without_hidden}
use Rattle.dict_layers.specs.Blocks.{with_notes}
use Rattle.dict_layers.proofs.layer.add_words.Given as goal

-- the words so far were added, but for those that are passed
abbrev pub invariant-loop-word : goal.invariant-loop-word
invariant-loop-word l =
    l.cands ≡ l.fn.cands ++ without_hidden l.passed (with_notes l.noted (take l.word-index l.words))
