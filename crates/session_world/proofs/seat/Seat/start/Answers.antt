use Rattle.std.proofs.Common.{subst, sym, true, ◌≡◌}
use Rattle.session_machine.specs.NextAsked.{may_answer_all}
use Rattle.session_machine.specs.Pressed.{pressed}
use Rattle.session_world.proofs.Readings.{may-answer-none}
use Rattle.session_world.proofs.seat.Seat.start.Goals as goal

pub settle-requires-clause-may : goal.settle-requires-clause-may
settle-requires-clause-may c =
    let tree = pressed c.args.rules.now c.args.self.now.session c.args.key in
    subst (λ answers. may_answer_all tree answers ≡ true) (sym c.new.ensures) (may-answer-none tree)
