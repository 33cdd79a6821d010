use Rattle.std.proofs.Common.{◌≡◌, map, true}
use Rattle.std.specs.List.{list_all}
use Rattle.skk_calls.specs.Rows.{is_cand}
use Rattle.word_sets.specs.Strings.{as_cand}
use Rattle.machine_tests.proofs.making.distinct_cands.Given as goal

-- each of the candidates so far is one
abbrev pub invariant-loop-cand : goal.invariant-loop-cand
invariant-loop-cand g l = list_all is_cand (map as_cand l.first) ≡ true
