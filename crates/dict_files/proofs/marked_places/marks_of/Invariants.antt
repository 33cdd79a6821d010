use Rattle.std.proofs.Common.{◌≡◌, ◌-◌, ◌++◌, drop, encode_utf8_all, length, map}
use Rattle.dict_files.specs.FilePlaces.{marks_of}
use Rattle.dict_files.proofs.marked_places.marks_of.Given as goal

-- the marks so far, and those of the entries that are left, are the marks of all
abbrev pub invariant-loop-at : goal.invariant-loop-at
invariant-loop-at l =
    map encode_utf8_all l.marks.items ++ marks_of l.bytes (drop l.at l.places) ≡ marks_of l.bytes l.places

abbrev pub decreases-loop-at : goal.decreases-loop-at
decreases-loop-at l = length l.places - l.at
