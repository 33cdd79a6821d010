use Rattle.std.proofs.Common.{◌≡◌, take}
use Rattle.romaji_rules.proofs.pending.Pending.of.Given as goal

-- the letters so far
abbrev pub invariant-loop-letter : goal.invariant-loop-letter
invariant-loop-letter l = l.pending ≡ take l.letter-index l.letters
