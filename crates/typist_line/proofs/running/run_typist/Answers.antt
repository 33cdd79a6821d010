use Rattle.std.proofs.Common.{◌≡◌, ◌∙◌, None, ap, sym}
use Rattle.typist_line.specs.Typings.{TypingView, heard}
use Rattle.typist_line.proofs.Standing.{stops-gone}
use Rattle.typist_line.proofs.running.run_typist.Goals as goal

pub returns-in_default-clause-stops : goal.returns-in_default-clause-stops
returns-in_default-clause-stops g c =
    let none : c.args.lines.now.typist ≡ None =
    ap (λ (typing : TypingView). typing.typist) (sym c.lines.view_is) ∙ sym c.take.ensures.value ∙ c.in_default.is in
    stops-gone c.args.rules.now c.args.bytes.now c.args.lines.now
    (heard g.C.Caller.said c.args.caller.now c.args.out.now.items) none
