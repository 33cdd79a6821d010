use Rattle.std.proofs.Common.{◌≡◌, ◌++◌, take}
use Rattle.std.specs.List.{flat_map}
use Rattle.load_input.specs.Dictionary.{rows_from}
use Rattle.load_input.proofs.dictionary.push_all.Given as goal

abbrev pub invariant-loop-first : goal.invariant-loop-first
invariant-loop-first l = l.rows ≡ l.fn.rows ++ flat_map rows_from (take l.first-index l.firsts)
