use Rattle.std.proofs.Common.{Bor, arith}
use Rattle.std.proofs.lemmas.Grind.{common_steps}
use Rattle.skk_calls.specs.Rows.{Row}
use Rattle.batch_store.proofs.LevelRows.{most_more}
use Rattle.batch_store.proofs.levels.most_cands.Goals as goal

-- one row more
pub loop-row-preserved : goal.loop-row-preserved
loop-row-preserved c =
    let more = most_more (λ (row : Bor Row). row.now) c.args.rows.now c.loop-row.row-index c.row-item.result in
    grind (arith, common_steps, more)
