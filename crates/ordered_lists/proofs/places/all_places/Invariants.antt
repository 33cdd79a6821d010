use Rattle.std.proofs.Common.{Some, map, slice_get, take, ◌≡◌}
use Rattle.ordered_lists.proofs.places.all_places.Given as goal

-- the places so far are those of the items so far
abbrev pub invariant-loop-place : goal.invariant-loop-place
invariant-loop-place g l = map (slice_get l.items) l.places ≡ map Some (take l.place l.items)
