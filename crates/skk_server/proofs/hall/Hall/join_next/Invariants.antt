use Rattle.skk_server.specs.Stages.{HasPlaces, JoinsSome}
use Rattle.skk_server.proofs.hall.Hall.join_next.Given as goal

-- some were joined
abbrev pub invariant-loop : goal.invariant-loop
invariant-loop g l =
    JoinsSome g.L.Outside g.C.Caller l.fn.self l.self
    × HasPlaces l.self
