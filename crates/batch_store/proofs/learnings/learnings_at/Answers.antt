use Rattle.std.proofs.Common.{Bor, arith}
use Rattle.skk_calls.specs.Rows.{Row}
use Rattle.batch_store.proofs.LevelRows.{learnings_more}
use Rattle.batch_store.proofs.learnings.learnings_at.Goals as goal

-- one learning more
pub loop-row-preserved : goal.loop-row-preserved
loop-row-preserved c =
    let here = c.row-item.is in
    let more =
    learnings_more (λ (row : Bor Row). row.now) c.args.rows.now c.loop-row.row-index c.row-item.result c.args.book
    c.args.rank c.at.result.now in
    grind (arith, more, c.in_ok-push.ensures.ok, c.in_ok-copy.ensures, c.in_ok-copy-2.ensures, c.loop-row.invariant)
