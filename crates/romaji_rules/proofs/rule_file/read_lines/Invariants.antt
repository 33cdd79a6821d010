use Rattle.std.proofs.Common.{length}
use denote.Text.{Utf8}
use denote.Shadow.{shadow}
use Rattle.romaji_rules.proofs.ReadLines.{IsReadTo}
use Rattle.romaji_rules.proofs.rule_file.read_lines.Given as goal

-- the lines before the rest are read
abbrev pub invariant-loop-line : goal.invariant-loop-line
invariant-loop-line l = shadow (Utf8 l.rest) × IsReadTo l.text l.rest l.number l.lines.rules l.lines.numbers.items

abbrev pub decreases-loop-line : goal.decreases-loop-line
decreases-loop-line l = length l.rest
