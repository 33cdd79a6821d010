use Rattle.std.proofs.Common.{◌≡◌, ◌++◌, take}
use Rattle.skk_calls.specs.Found.{without_hidden}
use Rattle.dict_layers.proofs.layer.add_others.Given as goal

-- the candidates so far were added, but for those whose words are passed or stand first
abbrev pub invariant-loop-cand : goal.invariant-loop-cand
invariant-loop-cand l =
    l.cands ≡ l.fn.cands ++ without_hidden l.passed (without_hidden l.first (take l.cand-index l.others))
