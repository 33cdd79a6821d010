use Rattle.std.proofs.Common.{◌≡◌, arith}
use Rattle.romaji_rules.proofs.standard.add_doubled_rules.Goals as goal

pub returns : goal.returns
returns c = let all : c.loop-letter.letter-index ≡ 17 = omega arith in rw all at c.loop-letter.invariant
