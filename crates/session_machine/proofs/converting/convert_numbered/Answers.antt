use Rattle.std.proofs.Common.{◌∙◌, Ok, Err, ap, sym}
use Rattle.reading_state.specs.Keys.{key_with}
use Rattle.candidate_state.specs.declared.shown.Found.{Found}
use Rattle.session_machine.specs.Converted.{both_found, with_found}
use Rattle.session_machine.specs.Meanings.{Meaning, becomes}
use Rattle.session_machine.specs.Session.{Session}
use Rattle.session_machine.proofs.NumberReadings.{key_valid, numbers_valid}
use Rattle.session_machine.proofs.Saying.{says-behind, says-end, says-stopped}
use Rattle.session_machine.proofs.converting.convert_numbered.Goals as goal

pub key_of-requires : goal.key_of-requires
key_of-requires g c =
    rw (c.into_parts-key.ensures.key ∙ c.requires.key) (key_valid c.args.reading.text c.requires.plain)

pub convert_both-requires-clause-plain : goal.convert_both-requires-clause-plain
convert_both-requires-clause-plain g c =
    rw (c.into_parts-key.ensures.numbers ∙ c.requires.numbers) (numbers_valid c.args.reading.text c.requires.plain)

pub returns-in_err-numbered : goal.returns-in_err-numbered
returns-in_err-numbered g c =
    let session = c.args.session.now in
    let reading = c.args.reading in
    let behind : Found → Meaning =
    λ numbered. both_found session reading (record { plain = c.args.plain; numbered = numbered }) in
    let typist = ap (λ (s : Session). s.typist) c.session.view_is in
    let key = c.in_ok-key.ensures
    ∙ ap (λ text. key_with text reading.okuri) (c.into_parts-key.ensures.key ∙ c.requires.key) in
    let asked = rw (typist, key) at c.look_key_up.ensures in
    says-stopped _ (with_found session reading behind) c.look_key_up.result c.in_err-numbered.field-0.0
    c.from_residual-in_err-numbered.result session _ _ _ asked c.in_err-numbered.was
    c.from_residual-in_err-numbered.ensures.1

pub returns-in-Ok : goal.returns-in-Ok
returns-in-Ok g c =
    let session = c.args.session.now in
    let reading = c.args.reading in
    let behind : Found → Meaning =
    λ numbered. both_found session reading (record { plain = c.args.plain; numbered = numbered }) in
    let typist = ap (λ (s : Session). s.typist) c.session.view_is in
    let key = c.in_ok-key.ensures
    ∙ ap (λ text. key_with text reading.okuri) (c.into_parts-key.ensures.key ∙ c.requires.key) in
    let asked = rw (typist, key) at c.look_key_up.ensures in
    says-behind _ (with_found session reading behind) (Ok c.in-Ok.numbered) c.look_key_up.result _ _ _ _ asked
    (c.in_ok-numbered.was ∙ ap (λ found. Ok found) c.in-Ok.is) c.convert_both.ensures

pub returns-in-Err : goal.returns-in-Err
returns-in-Err g c =
    let session = c.args.session.now in
    let reading = c.args.reading in
    let behind : Found → Meaning =
    λ numbered. both_found session reading (record { plain = c.args.plain; numbered = numbered }) in
    let typist = ap (λ (s : Session). s.typist) c.session.view_is in
    let key = c.in_ok-key.ensures
    ∙ ap (λ text. key_with text reading.okuri) (c.into_parts-key.ensures.key ∙ c.requires.key) in
    let asked = rw (typist, key) at c.look_key_up.ensures in
    says-behind _ (with_found session reading behind) (Err c.in-Err.refusal) c.look_key_up.result _ _ _ _ asked
    (c.in_ok-numbered.was ∙ ap (λ found. Ok found) c.in-Err.is)
    (says-end _ c.leave_open.new.session _ (ap becomes (sym c.leave_open.ensures)))
