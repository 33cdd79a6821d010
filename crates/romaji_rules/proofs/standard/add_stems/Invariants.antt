use Rattle.std.proofs.Common.{◌≡◌, ◌++◌, flat_map, take}
use Rattle.romaji_rules.specs.Table.{contracted_of}
use Rattle.romaji_rules.proofs.standard.add_stems.Given as goal

abbrev pub invariant-loop-before : goal.invariant-loop-before
invariant-loop-before l =
    l.rules.items ≡ l.fn.rules.items ++ flat_map (contracted_of l.small) (take l.before-index l.lines)
