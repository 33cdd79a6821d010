use Rattle.std.proofs.Common.{arith}
use Rattle.romaji_rules.proofs.Rows.{rows_step}
use Rattle.romaji_rules.proofs.standard.add_rows.Goals as goal

pub loop-before-preserved : goal.loop-before-preserved
loop-before-preserved c =
    rows_step c.args.lines.now c.loop-before.before-index _ (omega arith) c.args.rules.now.items
    c.loop-before.rules.items c.add_row.new.rules.items c.loop-before.invariant c.in_ok-add_row.ensures
