use Rattle.std.proofs.Common.{◌∙◌, ap, sym}
use Rattle.std.specs.List.{list_any}
use Rattle.numeric_entries.specs.Forms.{asks_lookup}
use Rattle.skk_calls.specs.Rows.{Cand}
use Rattle.session_machine.specs.Converted.{filled}
use Rattle.session_machine.specs.Session.{Session}
use Rattle.session_machine.proofs.Saying.{says-becomes, says-behind, says-stopped}
use Rattle.session_machine.proofs.converting.convert_both.Goals as goal

pub returns-in_err-words : goal.returns-in_err-words
returns-in_err-words g c =
    let asks = ap (list_any (λ (cand : Cand). asks_lookup cand.word)) (sym c.cands.ensures.value)
    ∙ sym c.some_asks_lookup.ensures ∙ c.if-some_asks_lookup.true in
    let typist = ap (λ (s : Session). s.typist) c.session.view_is in
    let asked = rw (typist, c.as_slice.ensures ∙ c.requires.numbers) at c.look_numbers_up.ensures.asked in
    rw asks (says-stopped _ (filled c.args.session.now c.args.reading c.args.found) c.look_numbers_up.result
    c.in_err-words.field-0.0 c.from_residual.result c.args.session.now _ _ _ asked c.in_err-words.was
    c.from_residual.ensures.1)

pub returns-then-some_asks_lookup : goal.returns-then-some_asks_lookup
returns-then-some_asks_lookup g c =
    let asks = ap (list_any (λ (cand : Cand). asks_lookup cand.word)) (sym c.cands.ensures.value)
    ∙ sym c.some_asks_lookup.ensures ∙ c.if-some_asks_lookup.true in
    let typist = ap (λ (s : Session). s.typist) c.session.view_is in
    let asked = rw (typist, c.as_slice.ensures ∙ c.requires.numbers) at c.look_numbers_up.ensures.asked in
    rw asks (says-behind _ (filled c.args.session.now c.args.reading c.args.found) c.in_ok-words.words
    c.look_numbers_up.result _ _ _ _ asked c.in_ok-words.was (says-becomes _ _ _ c.fill.ensures))
