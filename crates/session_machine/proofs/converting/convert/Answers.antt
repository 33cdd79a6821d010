use Rattle.std.proofs.Common.{◌∙◌, Ok, Err, ap, sym}
use Rattle.candidate_state.specs.declared.shown.Found.{Found}
use Rattle.session_machine.specs.Converted.{plain_found, with_found}
use Rattle.session_machine.specs.Meanings.{Meaning, becomes}
use Rattle.session_machine.specs.Session.{Session}
use Rattle.session_machine.proofs.Saying.{says-behind, says-end, says-stopped}
use Rattle.session_machine.proofs.converting.convert.Goals as goal

pub returns-in_err-plain : goal.returns-in_err-plain
returns-in_err-plain g c =
    let session = c.args.session.now in
    let reading = c.args.reading in
    let behind : Found → Meaning = plain_found session reading in
    let typist = ap (λ (s : Session). s.typist) c.session.view_is in
    let asked = rw (typist, c.in_ok-key.ensures) at c.look_key_up.ensures in
    says-stopped _ (with_found session reading behind) c.look_key_up.result c.in_err-plain.field-0.0
    c.from_residual-in_err-plain.result session _ _ _ asked c.in_err-plain.was
    c.from_residual-in_err-plain.ensures.1

pub returns-in-Ok : goal.returns-in-Ok
returns-in-Ok g c =
    let session = c.args.session.now in
    let reading = c.args.reading in
    let behind : Found → Meaning = plain_found session reading in
    let typist = ap (λ (s : Session). s.typist) c.session.view_is in
    let asked = rw (typist, c.in_ok-key.ensures) at c.look_key_up.ensures in
    says-behind _ (with_found session reading behind) (Ok c.in-Ok.plain) c.look_key_up.result _ _ _ _ asked
    (c.in_ok-plain.was ∙ ap (λ found. Ok found) c.in-Ok.is) c.convert_plain.ensures

pub returns-in-Err : goal.returns-in-Err
returns-in-Err g c =
    let session = c.args.session.now in
    let reading = c.args.reading in
    let behind : Found → Meaning = plain_found session reading in
    let typist = ap (λ (s : Session). s.typist) c.session.view_is in
    let asked = rw (typist, c.in_ok-key.ensures) at c.look_key_up.ensures in
    says-behind _ (with_found session reading behind) (Err c.in-Err.refusal) c.look_key_up.result _ _ _ _ asked
    (c.in_ok-plain.was ∙ ap (λ found. Ok found) c.in-Err.is)
    (says-end _ c.leave_open.new.session _ (ap becomes (sym c.leave_open.ensures)))
