use Rattle.std.proofs.Common.{◌≡◌, map, take}
use Rattle.batch_store.specs.Learnings.{most_cands}
use Rattle.batch_store.proofs.levels.most_cands.Given as goal

-- it is the most that a row so far has
abbrev pub invariant-loop-row : goal.invariant-loop-row
invariant-loop-row l = l.most ≡ most_cands (map (λ row. row.now) (take l.row-index l.rows))
