use Rattle.std.proofs.Common.{◌∙◌, ap, sym}
use Rattle.skk_calls.specs.declared.answer.Answer.{Answer}
use Rattle.skk_calls.specs.declared.call.Call.TheVariants.{Purge}
use Rattle.candidate_state.specs.Shown.{Shown}
use Rattle.session_machine.specs.Meanings.{Meaning, becomes}
use Rattle.session_machine.specs.Pressed.{after_purge, purging}
use Rattle.session_machine.specs.Session.{Session}
use Rattle.session_machine.proofs.Saying.{says-asked, says-candidate, says-end}
use Rattle.session_machine.proofs.purging.purge.Goals as goal

pub returns : goal.returns
returns g c =
    let session = c.args.session.now in
    let conversion = c.args.conversion in
    let found = c.at-shown.result in
    let shown : Shown = record { key = found.key.now; cand = found.cand.now; text = found.text.now } in
    let next : Answer → Meaning = λ answer. becomes (after_purge session conversion answer) in
    let book = ap (λ (s : Session). Purge s.book shown.key shown.cand.word) c.session.view_is in
    says-candidate session conversion conversion.picking.place (purging session conversion) shown _ _ _
    (rw (c.shown_list.ensures.value, c.place.ensures.value) at c.at-shown.ensures)
    (says-asked _ c.in_ok-call.call next c.call-answer.result _ _ _ _ (c.in_ok-call.ensures.call ∙ book)
    c.call-answer.ensures.number c.call-answer.ensures.said
    (says-end _ c.take_purge.new.session _ (ap becomes (sym c.take_purge.ensures))))
