use Rattle.std.proofs.Common.{◌≡◌, ◌++◌, map, take}
use Rattle.romaji_rules.specs.Table.{single_of}
use Rattle.romaji_rules.proofs.standard.add_singles.Given as goal

abbrev pub invariant-loop-input : goal.invariant-loop-input
invariant-loop-input l = l.rules.items ≡ l.fn.rules.items ++ map single_of (take l.input-index l.lines)
