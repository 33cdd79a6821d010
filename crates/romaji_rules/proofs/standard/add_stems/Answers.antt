use Rattle.std.proofs.Common.{arith}
use Rattle.romaji_rules.specs.Table.{contracted_of}
use Rattle.romaji_rules.proofs.Rows.{lines_step}
use Rattle.romaji_rules.proofs.standard.add_stems.Goals as goal

pub loop-before-preserved : goal.loop-before-preserved
loop-before-preserved c =
    lines_step (contracted_of c.args.small.now) c.args.lines.now c.loop-before.before-index _ (omega arith)
    c.args.rules.now.items c.loop-before.rules.items
    c.add_row.new.rules.items c.loop-before.invariant c.in_ok-add_row.ensures
