use Rattle.std.proofs.Common.{◌≡◌, ◌++◌, drop}
use denote.Shadow.{shadow}
use denote.Text.{Utf8}
use Rattle.std.specs.Str.{chars}
use Rattle.numeric_entries.specs.Forms.{fill}
use Rattle.numeric_entries.proofs.filling.fill.Given as goal

-- what was added, with what is left as it is filled with the numbers that are left, is the word as it is filled
abbrev pub invariant-loop-place : goal.invariant-loop-place
invariant-loop-place l = record {
  rest : shadow (Utf8 l.rest);
  filled :
      l.text ++ fill (chars l.rest) (drop l.place l.numbers) (drop l.place l.firsts)
      ≡ fill l.word l.numbers l.firsts;
}
