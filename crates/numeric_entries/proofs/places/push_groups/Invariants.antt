use Rattle.std.proofs.Common.{◌≡◌, ◌++◌, ◌≤◌, true, length}
use Rattle.std.specs.Char.{is_ascii_digit}
use Rattle.std.specs.List.{list_all}
use Rattle.numeric_entries.specs.Numerals.{groups_named, groups_of}
use Rattle.numeric_entries.proofs.places.push_groups.Given as goal

abbrev pub invariant-loop-rest : goal.invariant-loop-rest
invariant-loop-rest l = record {
  digits : list_all is_ascii_digit l.rest ≡ true;
  few : length l.rest ≤ 16;
  pushed :
      l.text ++ groups_named l.numerals (groups_of 4 l.rest) ≡ l.fn.text
      ++ groups_named l.numerals (groups_of 4 l.number);
}

abbrev pub decreases-loop-rest : goal.decreases-loop-rest
decreases-loop-rest l = length l.rest
