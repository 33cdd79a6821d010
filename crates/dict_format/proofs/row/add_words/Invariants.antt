use Rattle.std.proofs.Common.{◌≡◌, ◌++◌, ℕ, List}
use Rattle.dict_format.specs.RowOfItems.{words_once}
use Rattle.dict_format.proofs.row.add_words.Given as goal

-- the words so far were added
abbrev pub invariant-loop-word : goal.invariant-loop-word
invariant-loop-word l =
    (before : List (List ℕ)) → l.fn.known ≡ words_once before
    → l.known ≡ words_once (before ++ l.yielded)
