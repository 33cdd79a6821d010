use Rattle.std.proofs.Common.{◌≡◌, length}
use Rattle.dict_format.specs.LeftLines.{entries_left}
use Rattle.dict_files.specs.Scanning.{AreOfFile}
use Rattle.dict_files.proofs.scanning.places_in_text.Given as goal

-- the places are those of the entries before the ones that are left
abbrev pub invariant-loop-line : goal.invariant-loop-line
invariant-loop-line l = record {
  text : l.lines.text ≡ l.text;
  places : AreOfFile l.text l.places (entries_left l.lines);
}

abbrev pub decreases-loop-line : goal.decreases-loop-line
decreases-loop-line l = length l.lines.lines
