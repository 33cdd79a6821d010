use Rattle.std.proofs.Common.{◌≡◌, ◌++◌}
use Rattle.std.specs.List.{flat_map}
use Rattle.skk_calls.specs.Canonical.{char_in_string}
use Rattle.dict_format.proofs.printing.push_characters.Given as goal

-- what was added stands for the characters so far
abbrev pub invariant-loop-c : goal.invariant-loop-c
invariant-loop-c l = l.line ≡ l.fn.line ++ flat_map char_in_string l.yielded
