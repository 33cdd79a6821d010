use Rattle.std.proofs.Common.{◌∷◌, [], arith, map}
use Rattle.std.proofs.lemmas.List.Elements.{All-append, All-cons, All-map, All-nil}
use Rattle.session_machine.specs.declared.frame.OuterFrame.{OuterFrame}
use Rattle.session_machine.specs.Pressed.{all_pressed}
use Rattle.session_machine.specs.Session.{TextFits, new_session}
use Rattle.session_machine.proofs.Kept.{comes-kept}
use Rattle.session_machine.proofs.Limits.{Fits, OuterFits, all-fit}
use Rattle.session_machine.proofs.laws.texts_have_a_limit.Goals as goal

pub returns : goal.returns
returns c = λ rules typist book keys dialog session comes.
    let start = new_session typist book in
    let all = all-fit rules start keys (omega arith, All-nil OuterFits) in
    let fit = comes-kept Fits (all_pressed rules start keys) dialog session all comes in
    let inner = All-cons TextFits session.frame.text [] fit.0 (All-nil TextFits) in
    All-append TextFits (map (λ frame. frame.text) session.outer) (session.frame.text ∷ [])
    (All-map TextFits (λ (frame : OuterFrame). frame.text) session.outer fit.1) inner
