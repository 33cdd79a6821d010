use Rattle.std.proofs.Common.{◌≡◌, ◌++◌, drop, if◌then◌else◌}
use Rattle.skk_calls.specs.Learning.{annotated_cands}
use Rattle.dict_rows.proofs.annotating.annotated_cands.Given as goal

-- the candidates so far, with what becomes of those that are left, are all
abbrev pub invariant-loop-other : goal.invariant-loop-other
invariant-loop-other l =
    l.after ++ (if l.is_annotated
    then drop l.other-index l.cands
    else annotated_cands (drop l.other-index l.cands) l.cand)
    ≡ annotated_cands l.cands l.cand
