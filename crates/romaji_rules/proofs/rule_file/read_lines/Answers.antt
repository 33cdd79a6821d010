use Rattle.std.proofs.Common.{rules}
use Rattle.romaji_rules.proofs.ReadLines.{line_read}
use Rattle.romaji_rules.proofs.rule_file.read_lines.Goals as goal

pub loop-line-preserved : goal.loop-line-preserved
loop-line-preserved c = (
  search rules,
  line_read c.args.text.now c.loop-line.rest.now c.in-Some.line.now c.in-Some.behind.now c.loop-line.number
      c.loop-line.lines c.in-Some.ensures.0
      c.loop-line.invariant.1 c.in_ok-lines-2.lines c.in-Some.ensures.1 c.in_ok-lines-2.ensures.ok,
)
