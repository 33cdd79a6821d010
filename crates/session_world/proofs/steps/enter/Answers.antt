use Rattle.session_world.proofs.Keeping.{keeps-changed, keeps-entered}
use Rattle.session_world.proofs.steps.enter.Goals as goal

pub invariant_of-world-2 : goal.invariant_of-world-2
invariant_of-world-2 c =
    let inside = c.world.inside in
    keeps-entered inside.rules c.take_in.new.seats.items inside.history.items c.push.new.self.items _
    (keeps-changed inside.rules inside.seats.items c.take_in.new.seats.items inside.history.items c.world.invariant
    c.take_in.ensures.count c.take_in.ensures.seats)
    c.requires.fit c.in_ok-push.ensures.items
