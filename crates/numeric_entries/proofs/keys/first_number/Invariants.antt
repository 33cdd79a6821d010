use Rattle.std.proofs.Common.{◌≡◌, ◌++◌, true, length}
use denote.Shadow.{shadow}
use denote.Text.{Utf8}
use Rattle.std.specs.Char.{is_ascii_digit}
use Rattle.std.specs.List.{list_all}
use Rattle.std.specs.Str.{chars}
use Rattle.numeric_entries.proofs.keys.first_number.Given as goal

-- the digits that were taken, and what is left, are the text
abbrev pub invariant-loop-c : goal.invariant-loop-c
invariant-loop-c l = record {
  text : shadow (Utf8 l.rest);
  cut : chars l.text ≡ l.number ++ chars l.rest;
  digits : list_all is_ascii_digit l.number ≡ true;
}

abbrev pub decreases-loop-c : goal.decreases-loop-c
decreases-loop-c l = length (chars l.rest)
