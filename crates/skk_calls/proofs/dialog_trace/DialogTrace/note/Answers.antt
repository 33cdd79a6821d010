use Rattle.std.proofs.Common.{◌∙◌, ap, [], ◌∷◌, ◌++◌, Option, Some}
use Rattle.std.proofs.lemmas.List.Elements.{filter_map-append}
use Rattle.std.specs.List.{filter_map}
use Rattle.skk_calls.specs.declared.answer.Answer.{Answer}
use Rattle.skk_calls.specs.declared.call.Call.{Call}
use Rattle.skk_calls.specs.Interactions.{Dialog}
use Rattle.skk_calls.proofs.dialog_trace.DialogTrace.note.Goals as goal

pub returns : goal.returns
returns c =
    let call = c.args.call.now in
    let answer = c.args.answer.now in
    let told : Option (Call × Answer) → Option (Call × Answer) = λ note. note in
    ap (filter_map told) c.note.ensures
    ∙ filter_map-append told c.self.inside.trace (Some (call, answer) ∷ [])
    ∙ ap (λ (dialog : Dialog). dialog ++ (call, answer) ∷ []) c.self.view_is
