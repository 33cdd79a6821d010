use Rattle.std.proofs.Common.{◌≡◌, ◌++◌, take}
use Rattle.load_input.specs.Lines.{begun, syllable, typed}
use Rattle.load_input.proofs.lines.keys_of.Given as goal

abbrev pub invariant-loop-key : goal.invariant-loop-key
invariant-loop-key l =
    l.keys ≡ typed (begun l.fn.kind (syllable l.first)) ++ typed (syllable l.second) ++ take l.key-index l.key-items
