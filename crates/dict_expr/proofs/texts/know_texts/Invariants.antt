use Rattle.std.proofs.Common.{◌≡◌, take}
use Rattle.std.specs.List.{fold}
use Rattle.word_sets.specs.Firsts.{with_new}
use Rattle.dict_expr.proofs.texts.know_texts.Given as goal

-- the texts so far are known
abbrev pub invariant-loop-text : goal.invariant-loop-text
invariant-loop-text l = l.known ≡ fold (with_new (λ text. text)) l.fn.known (take l.text-index l.texts)
