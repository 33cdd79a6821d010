use Rattle.std.proofs.Common.{◌≡◌, true, Some, map, slice_get, take}
use Rattle.std.specs.List.{filter, list_all}
use Rattle.skk_calls.specs.Rows.{is_row}
use Rattle.dict_files.specs.Walked.{is_walked}
use Rattle.dict_files.proofs.row_file.walked_places.Given as goal

-- the places so far are those of the rows so far that a walk comes by, and these are rows
abbrev pub invariant-loop-place : goal.invariant-loop-place
invariant-loop-place l = record {
  places : map (slice_get l.rows) l.places ≡ map Some (filter is_walked (take l.place l.rows));
  rows : list_all is_row (take l.place l.rows) ≡ true;
}
