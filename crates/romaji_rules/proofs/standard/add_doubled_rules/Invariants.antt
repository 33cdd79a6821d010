use Rattle.std.proofs.Common.{◌≡◌, ◌++◌, map, take}
use Rattle.romaji_rules.specs.Standard.{doubled}
use Rattle.romaji_rules.proofs.standard.add_doubled_rules.Given as goal

abbrev pub invariant-loop-letter : goal.invariant-loop-letter
invariant-loop-letter l = l.rules.items ≡ l.fn.rules.items ++ map doubled (take l.letter-index l.letter-items)
