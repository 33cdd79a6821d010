use Rattle.std.proofs.Common.{◌≡◌, ◌∙◌, ap, sym, true}
use Rattle.reading_state.specs.Puts.{Reading}
use Rattle.candidate_state.specs.Shown.{Shown}
use Rattle.session_machine.specs.Pressed.{choice_piece}
use Rattle.session_machine.specs.Session.{Session, has_room}
use Rattle.session_machine.proofs.Saying.{says-choosing}
use Rattle.session_machine.proofs.choosing.choose.Goals as goal

pub returns : goal.returns
returns g c =
    let session = c.args.session.now in
    let conversion = c.args.conversion in
    let found = c.at-shown.result in
    let shown : Shown = record { key = found.key.now; cand = found.cand.now; text = found.text.now } in
    let piece = c.in_ok-piece.ensures
    ∙ ap (λ (s : Session). choice_piece s.frame.mode c.reading.result.now shown) c.session.view_is
    ∙ ap (λ (r : Reading). choice_piece session.frame.mode r shown) c.reading.ensures.value in
    let room : has_room session c.in_ok-piece.piece ≡ true =
    ap (has_room session) (sym c.as_str.ensures.characters) ∙ sym c.has_room.ensures ∙ c.if-not-has_room.false in
    says-choosing c.args.rules.now session conversion c.args.place c.args.then shown c.in_ok-piece.piece _ _ _
    (rw c.shown_list.ensures.value at c.at-shown.ensures) piece room c.learn.ensures
