use Rattle.std.proofs.Common.{◌≡◌, ◌∙◌, [], ◌∷◌, ◌++◌, ap, subst, sym, true, List, Some}
use Rattle.std.proofs.lemmas.Result.{on_ok_weaker}
use Rattle.skk_calls.specs.declared.answer.Answer.{Answer}
use Rattle.session_machine.specs.NextAsked.{may_answer_all}
use Rattle.session_machine.specs.Pressed.{pressed}
use Rattle.session_world.specs.Seats.{answered, with_answers}
use Rattle.session_world.proofs.Taking.{answered-with, may-take}
use Rattle.session_world.proofs.seat.Seat.take.Goals as goal

pub settle-requires-clause-may : goal.settle-requires-clause-may
settle-requires-clause-may c =
    let seat = c.args.self.now in
    let key = c.in-Some.field-0 in
    let under : seat.under_way ≡ Some key = cc in
    let grown : c.push.new.self ≡ key.answers ++ c.args.answer ∷ [] = cc (c.in_ok-push.ensures.ok) in
    subst (λ (answers : List Answer). may_answer_all (pressed c.args.rules.now seat.session key.key) answers ≡ true)
    (sym grown) (may-take c.args.rules.now seat key c.args.answer under c.requires.seat.1 c.requires.asked)

pub returns-clause-answered : goal.returns-clause-answered
returns-clause-answered c =
    let seat = c.args.self.now in
    let rules = c.args.rules.now in
    let key = c.in-Some.field-0 in
    let under : seat.under_way ≡ Some key = cc in
    let grown : c.push.new.self ≡ key.answers ++ c.args.answer ∷ [] = cc (c.in_ok-push.ensures.ok) in
    let goes_on : c.settle.new.self ≡ with_answers rules seat key.key c.push.new.self
    → c.settle.new.self ≡ answered rules seat c.args.answer =
    λ settled. settled ∙ ap (λ (answers : List Answer). with_answers rules seat key.key answers) grown
    ∙ sym (answered-with rules seat key c.args.answer under) in
    on_ok_weaker c.settle.result goes_on c.settle.ensures.settled
