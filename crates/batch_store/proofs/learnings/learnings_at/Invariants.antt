use Rattle.std.proofs.Common.{◌≡◌, map, take}
use Rattle.batch_store.specs.Learnings.{learnings_at}
use Rattle.batch_store.proofs.learnings.learnings_at.Given as goal

-- they are the learnings of the rows so far
abbrev pub invariant-loop-row : goal.invariant-loop-row
invariant-loop-row l = l.calls ≡ learnings_at l.book (map (λ row. row.now) (take l.row-index l.rows)) l.rank
