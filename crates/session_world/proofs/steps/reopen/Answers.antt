use Rattle.std.proofs.Common.{◌∙◌, List, ap, map}
use Rattle.session_world.specs.Seats.{renewed}
use Rattle.session_world.specs.declared.seat.Seat.{Seat}
use Rattle.session_world.proofs.Keeping.{keeps-renewed}
use Rattle.session_world.proofs.steps.reopen.Goals as goal

pub invariant_of-world : goal.invariant_of-world
invariant_of-world c =
    let inside = c.world.inside in
    keeps-renewed inside.rules inside.seats.items c.in_ok-seats.seats.items inside.history.items c.new-2.result.items
    c.world.invariant (c.in_ok-seats.ensures ∙ ap (λ (seats : List Seat). map renewed seats) c.deref.ensures.value)
    c.new-2.ensures.items
