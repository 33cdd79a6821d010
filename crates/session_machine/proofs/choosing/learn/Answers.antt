use Rattle.std.proofs.Common.{◌≡◌, ◌∙◌, ap, subst}
use Rattle.skk_calls.specs.declared.answer.Answer.{Answer}
use Rattle.skk_calls.specs.declared.call.Call.TheVariants.{Learn}
use Rattle.reading_state.specs.Keys.{okuri_of}
use Rattle.reading_state.specs.Puts.{Reading}
use Rattle.candidate_state.specs.Shown.{Shown}
use Rattle.session_machine.specs.Meanings.{Meaning}
use Rattle.session_machine.specs.Pressed.{after_learning, choice_effect, learning}
use Rattle.session_machine.specs.Said.{Says, after, spoken}
use Rattle.session_machine.specs.Session.{Session, with_piece}
use Rattle.session_machine.proofs.Saying.{says-asked, says-candidate}
use Rattle.session_machine.proofs.choosing.learn.Goals as goal

pub returns : goal.returns
returns g c =
    let rules = c.args.rules.now in
    let session = c.args.session.now in
    let conversion = c.args.conversion in
    let piece = c.args.piece.now in
    let found = c.at-shown.result in
    let shown : Shown = record { key = found.key.now; cand = found.cand.now; text = found.text.now } in
    let next : Answer → Meaning =
    λ answer. choice_effect rules (after_learning (with_piece session piece) conversion piece answer) c.args.then in
    let behind : Session → Meaning = λ s. choice_effect rules s c.args.then in
    let call = c.in_ok-call.ensures.call
    ∙ ap (λ (r : Reading). Learn session.book shown.key (okuri_of r) shown.cand) c.reading.ensures.value in
    let reached : c.take_learning.new.session
    ≡ after_learning (with_piece session piece) conversion piece c.call-answer.result =
    c.take_learning.ensures
    ∙ ap (λ s. after_learning s conversion piece c.call-answer.result) c.in_ok-call.ensures.inserted in
    says-candidate session conversion c.args.place (learning rules session conversion piece c.args.then) shown _ _ _
    (rw c.shown_list.ensures.value at c.at-shown.ensures)
    (says-asked _ c.in_ok-call.call next c.call-answer.result _ _ _ _ call
    c.call-answer.ensures.number c.call-answer.ensures.said
    (subst (λ s. Says (behind s) (after c.apply_choice.result c.apply_choice.new.session)
    (spoken g.C.Caller.number g.C.Caller.said c.call-answer.new.self)
    (spoken g.C.Caller.number g.C.Caller.said c.apply_choice.new.caller)) reached c.apply_choice.ensures))
