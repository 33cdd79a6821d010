use Rattle.std.proofs.Common.{◌≡◌, ◌++◌, length}
use denote.Shadow.{shadow}
use denote.Text.{Utf8}
use Rattle.std.specs.Io.{StartsWith}
use Rattle.std.specs.List.{flat_map}
use Rattle.std.specs.Str.{chars}
use Rattle.session_machine.specs.Display.{escaped}
use Rattle.session_machine.proofs.escaping.push_printed.Given as goal

-- the page and what is left, as it is printed, are the page and the text at the start, and the page
-- begins with what it was
abbrev pub invariant-loop-run : goal.invariant-loop-run
invariant-loop-run l = record {
  text : shadow (Utf8 l.rest);
  printed : l.page ++ flat_map escaped (chars l.rest) ≡ l.fn.page ++ flat_map escaped (chars l.fn.text);
  kept : StartsWith l.page l.fn.page;
}

abbrev pub decreases-loop-run : goal.decreases-loop-run
decreases-loop-run l = length l.rest
