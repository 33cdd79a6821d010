use Rattle.std.proofs.Common.{◌≡◌, ◌++◌, map, take}
use Rattle.load_input.specs.Dictionary.{row_of}
use Rattle.load_input.proofs.dictionary.push_rows.Given as goal

abbrev pub invariant-loop-second : goal.invariant-loop-second
invariant-loop-second l = l.rows ≡ l.fn.rows ++ map (row_of l.first) (take l.second-index l.seconds)
