use Rattle.std.proofs.Common.{length}
use Rattle.dict_format.proofs.FileEntries.{IsListed}
use Rattle.dict_format.proofs.file_reading.read_text.Given as goal

-- the entries before those that are left are taken
abbrev pub invariant-loop-line : goal.invariant-loop-line
invariant-loop-line l = IsListed l.text l.lines l.listing

abbrev pub decreases-loop-line : goal.decreases-loop-line
decreases-loop-line l = length l.lines.lines
