use Rattle.std.proofs.Common.{◌≡◌, map, take}
use Rattle.session_world.specs.Seats.{new_seat}
use Rattle.session_world.proofs.seat.new_seats.Given as goal

-- the seats so far are those of the sessions so far
abbrev pub invariant-loop-typist : goal.invariant-loop-typist
invariant-loop-typist l =
    l.seats.items ≡ map (λ session. new_seat session.0 session.1) (take l.typist-index l.sessions)
