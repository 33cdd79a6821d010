use Rattle.std.proofs.Common.{◌≡◌, ◌++◌}
use Rattle.skk_calls.specs.Found.{without_hidden}
use Rattle.dict_layers.proofs.merging.move_cands.Given as goal

-- the candidates so far were moved, but for those whose words are passed
abbrev pub invariant-loop-cand : goal.invariant-loop-cand
invariant-loop-cand l = l.cands ≡ l.fn.cands ++ without_hidden l.passed l.yielded
