use Rattle.std.proofs.Common.{◌≡◌, ◌++◌, take}
use Rattle.skk_calls.specs.Found.{without_hidden}
use Rattle.dict_expr.proofs.texts.add_unknown_cands.Given as goal

-- the candidates so far were added, but for those whose words are known
abbrev pub invariant-loop-cand : goal.invariant-loop-cand
invariant-loop-cand l = l.copies ≡ l.fn.copies ++ without_hidden l.known (take l.cand-index l.cands)
