use Rattle.std.proofs.Common.{◌≡◌, ◌++◌, take}
use Rattle.load_input.specs.Lines.{typed}
use Rattle.load_input.proofs.lines.push_letters.Given as goal

abbrev pub invariant-loop-letter : goal.invariant-loop-letter
invariant-loop-letter l = l.keys ≡ l.fn.keys ++ typed (take l.letter-index l.letters)
