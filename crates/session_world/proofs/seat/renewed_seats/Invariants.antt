use Rattle.std.proofs.Common.{◌≡◌, map, take}
use Rattle.session_world.specs.Seats.{renewed}
use Rattle.session_world.proofs.seat.renewed_seats.Given as goal

-- the new seats so far are those of the seats so far
abbrev pub invariant-loop-seat : goal.invariant-loop-seat
invariant-loop-seat l = l.new.items ≡ map renewed (take l.seat-index l.seats)
