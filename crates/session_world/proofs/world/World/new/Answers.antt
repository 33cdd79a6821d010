use Rattle.session_world.proofs.Keeping.{keeps-new}
use Rattle.session_world.proofs.world.World.new.Goals as goal

pub invariant_of-result-4 : goal.invariant_of-result-4
invariant_of-result-4 c =
    keeps-new c.rules.inside.rules c.args.sessions.now c.in_ok-new_seats.field-0.items c.new-2.result.items
    c.requires.count c.requires.books c.in_ok-new_seats.ensures c.new-2.ensures.items
