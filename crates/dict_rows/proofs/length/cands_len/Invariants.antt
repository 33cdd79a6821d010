use Rattle.std.proofs.Common.{◌≡◌, take}
use Rattle.std.specs.List.{flat_map}
use Rattle.skk_calls.specs.Canonical.{with_slash, item}
use Rattle.dict_rows.specs.Lengths.{told_len}
use Rattle.dict_rows.proofs.length.cands_len.Given as goal

-- those so far were counted
abbrev pub invariant-loop-cand : goal.invariant-loop-cand
invariant-loop-cand l = l.bytes ≡ told_len (flat_map (λ x. with_slash (item x)) (take l.cand-index l.cands))
