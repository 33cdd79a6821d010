use Rattle.std.proofs.Common.{◌≡◌, drop}
use Rattle.std.specs.List.{filter}
use Rattle.dict_files.specs.FilePlaces.{first_row, has_reading}
use Rattle.dict_files.proofs.searching.first_row.Given as goal

-- the entries so far have the reading, and spell no row
abbrev pub invariant-loop-place : goal.invariant-loop-place
invariant-loop-place l =
    first_row l.part l.bytes (filter (has_reading l.bytes l.reading) l.places)
    ≡ first_row l.part l.bytes (filter (has_reading l.bytes l.reading) (drop l.place-index l.places))
