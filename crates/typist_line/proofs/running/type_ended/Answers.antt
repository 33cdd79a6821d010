use Rattle.std.proofs.Common.{◌++◌, ◌∙◌, refl, subst}
use Rattle.typist_line.specs.Typings.{heard, TypesLine, BreaksLine}
use Rattle.typist_line.proofs.Lines.{silent-break}
use Rattle.typist_line.proofs.Results.{on_err}
use Rattle.typist_line.proofs.running.type_ended.Goals as goal

pub returns-clause-ok : goal.returns-clause-ok
returns-clause-ok g c =
    let before = heard g.C.Caller.said c.args.caller.now c.args.out.now.items in
    let after = heard g.C.Caller.said c.type_line.new.caller c.type_line.new.out.items in
    subst (λ text. TypesLine c.args.rules.now text c.args.typist before after c.in_ok-after.after)
    (c.as_slice.ensures ∙ c.in_ok-push_bytes.ensures.ok) c.in_ok-after.ensures.ok

pub returns-in_err-push_bytes-clause-err : goal.returns-in_err-push_bytes-clause-err
returns-in_err-push_bytes-clause-err g c =
    let before = heard g.C.Caller.said c.args.caller.now c.args.out.now.items in
    on_err c.from_residual.result
    (silent-break c.args.rules.now (c.args.begun.now ++ c.args.end.now) c.args.typist before before (refl, refl))

pub returns-in_err-after-clause-err : goal.returns-in_err-after-clause-err
returns-in_err-after-clause-err g c =
    let before = heard g.C.Caller.said c.args.caller.now c.args.out.now.items in
    let after = heard g.C.Caller.said c.type_line.new.caller c.type_line.new.out.items in
    on_err c.from_residual-in_err-after.result
    (subst (λ text. BreaksLine c.args.rules.now text c.args.typist before after)
    (c.as_slice.ensures ∙ c.in_ok-push_bytes.ensures.ok) c.in_err-after.ensures.err)
