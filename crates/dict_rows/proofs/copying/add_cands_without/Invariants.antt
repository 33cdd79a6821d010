use Rattle.std.proofs.Common.{◌≡◌, ◌++◌, take}
use Rattle.skk_calls.specs.Learning.{without_word}
use Rattle.dict_rows.proofs.copying.add_cands_without.Given as goal

-- those of the candidates so far were added
abbrev pub invariant-loop-cand : goal.invariant-loop-cand
invariant-loop-cand l = l.copies ≡ l.fn.copies ++ without_word l.word (take l.cand-index l.cands)
