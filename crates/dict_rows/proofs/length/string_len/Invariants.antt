use Rattle.std.proofs.Common.{◌≡◌, ◌++◌, codes}
use Rattle.std.specs.List.{flat_map}
use Rattle.skk_calls.specs.Canonical.{char_in_string}
use Rattle.dict_rows.specs.Lengths.{told_len}
use Rattle.dict_rows.proofs.length.string_len.Given as goal

-- the quotes and the characters so far were counted
abbrev pub invariant-loop-c : goal.invariant-loop-c
invariant-loop-c l = l.bytes ≡ told_len (codes "\"\"" ++ flat_map char_in_string l.yielded)
