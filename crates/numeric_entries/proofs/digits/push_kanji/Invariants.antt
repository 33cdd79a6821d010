use Rattle.std.proofs.Common.{◌≡◌, ◌++◌, map, take}
use Rattle.numeric_entries.specs.Numerals.{numeral}
use Rattle.numeric_entries.proofs.digits.push_kanji.Given as goal

abbrev pub invariant-loop-digit : goal.invariant-loop-digit
invariant-loop-digit l = l.text ≡ l.fn.text ++ map (numeral l.numerals) (take l.digit-index l.digits)
