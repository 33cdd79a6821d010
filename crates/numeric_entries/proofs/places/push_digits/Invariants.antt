use Rattle.std.proofs.Common.{◌≡◌, ◌++◌, ◌≤◌, true, length}
use Rattle.std.specs.Char.{is_ascii_digit}
use Rattle.std.specs.List.{list_all}
use Rattle.numeric_entries.specs.Numerals.{digits_in_places}
use Rattle.numeric_entries.proofs.places.push_digits.Given as goal

abbrev pub invariant-loop-rest : goal.invariant-loop-rest
invariant-loop-rest l = record {
  digits : list_all is_ascii_digit l.rest ≡ true;
  few : length l.rest ≤ 4;
  pushed : l.text ++ digits_in_places l.numerals l.rest ≡ l.fn.text ++ digits_in_places l.numerals l.group;
}

abbrev pub decreases-loop-rest : goal.decreases-loop-rest
decreases-loop-rest l = length l.rest
