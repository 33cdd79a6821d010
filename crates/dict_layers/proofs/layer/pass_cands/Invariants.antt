use Rattle.std.proofs.Common.{◌≡◌, take}
use Rattle.std.specs.List.{fold}
use Rattle.skk_calls.specs.Rows.{words_of}
use Rattle.word_sets.specs.Firsts.{with_new}
use Rattle.dict_layers.proofs.layer.pass_cands.Given as goal

-- the words of the candidates so far were passed
abbrev pub invariant-loop-cand : goal.invariant-loop-cand
invariant-loop-cand l = l.passed ≡ fold (with_new (λ text. text)) l.fn.passed (words_of (take l.cand-index l.cands))
