use Rattle.std.proofs.Common.{◌≡◌, ◌++◌, true, length}
use denote.Shadow.{shadow}
use denote.Text.{Utf8}
use Rattle.std.specs.Str.{chars}
use Rattle.numeric_entries.specs.Numbers.{are_numbers, key_of, numbers_of}
use Rattle.numeric_entries.proofs.keys.number_key.Given as goal

-- the key and the numbers so far, with those of what is left, are those of the reading
abbrev pub invariant-loop-c : goal.invariant-loop-c
invariant-loop-c l = record {
  text : shadow (Utf8 l.rest);
  key : l.key ++ key_of (chars l.rest) ≡ key_of l.reading;
  numbers : l.numbers ++ numbers_of (chars l.rest) ≡ numbers_of l.reading;
  valid : are_numbers l.numbers ≡ true;
}

abbrev pub decreases-loop-c : goal.decreases-loop-c
decreases-loop-c l = length (chars l.rest)
