use Rattle.std.proofs.Common.{◌≡◌, length}
use Rattle.typist_line.specs.Typings.{heard}
use Rattle.typist_line.proofs.Standing.{HasTyped, there}
use Rattle.typist_line.proofs.running.type_bytes.Given as goal

-- the bytes in front of the rest were typed, and the caller has its number
abbrev pub invariant-loop-rest : goal.invariant-loop-rest
invariant-loop-rest g l =
    HasTyped l.rules l.bytes l.rest (there l.fn.typist l.fn.begun) l.typist l.begun
    (heard g.C.Caller.said l.fn.caller l.fn.out.items) (heard g.C.Caller.said l.caller l.out.items)
    × (g.C.Caller.number l.caller ≡ g.C.Caller.number l.fn.caller)

abbrev pub decreases-loop-rest : goal.decreases-loop-rest
decreases-loop-rest g l = length l.rest
