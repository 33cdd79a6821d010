use Rattle.std.proofs.Common.{◌≡◌, take}
use Rattle.std.specs.List.{fold}
use Rattle.skk_calls.specs.Rows.{words_of}
use Rattle.word_sets.specs.Firsts.{with_new}
use Rattle.dict_expr.proofs.texts.know_cands.Given as goal

-- the words of the candidates so far are known
abbrev pub invariant-loop-cand : goal.invariant-loop-cand
invariant-loop-cand l = l.known ≡ fold (with_new (λ text. text)) l.fn.known (words_of (take l.cand-index l.cands))
