use Rattle.std.proofs.Common.{◌≡◌, ◌-◌, length, take}
use Rattle.std.specs.Str.{chars, IsUtf8}
use Rattle.skk_text.proofs.text.last_of.Given as goal

-- what is left are the characters but for those taken from the end
abbrev pub invariant-loop : goal.invariant-loop
invariant-loop l = record {
  utf8 : IsUtf8 l.prefix;
  characters : chars l.prefix ≡ take (length (chars l.text) - l.counter) (chars l.text);
}
