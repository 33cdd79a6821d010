use Rattle.std.proofs.Common.{refl, sym, subst, IfOk, OnErr}
use Rattle.std.proofs.lemmas.Result.{IfOk-weaker, on_err_weaker}
use Rattle.typist_line.specs.declared.typing.Typist.TheVariants.{New}
use Rattle.typist_line.specs.Typings.{heard, OpensTo, TypesLine, BreaksLine}
use Rattle.typist_line.proofs.running.type_line.Goals as goal

pub returns-in-New-clause-ok : goal.returns-in-New-clause-ok
returns-in-New-clause-ok g c =
    let said = g.C.Caller.said in
    let before = heard said c.args.caller.now c.args.out.now.items in
    let after = heard said c.args.caller.now c.open_by.new.out.items in
    subst (λ t. IfOk c.open_by.result (TypesLine c.args.rules.now c.args.line.now t before after)) (sym c.in-New.is)
    (IfOk-weaker c.open_by.result (OpensTo c.args.line.now c.args.out.now.items c.open_by.new.out.items)
    (TypesLine c.args.rules.now c.args.line.now New before after) (λ stand opens. (refl, opens)) c.open_by.ensures.ok)

pub returns-in-New-clause-err : goal.returns-in-New-clause-err
returns-in-New-clause-err g c =
    let said = g.C.Caller.said in
    let before = heard said c.args.caller.now c.args.out.now.items in
    let after = heard said c.args.caller.now c.open_by.new.out.items in
    subst (λ t. OnErr c.open_by.result (BreaksLine c.args.rules.now c.args.line.now t before after)) (sym c.in-New.is)
    (on_err_weaker c.open_by.result (λ same. (refl, same)) c.open_by.ensures.err)

pub returns-in-Typing-clause-ok : goal.returns-in-Typing-clause-ok
returns-in-Typing-clause-ok g c =
    let said = g.C.Caller.said in
    let before = heard said c.args.caller.now c.args.out.now.items in
    let after = heard said c.type_keys.new.caller c.type_keys.new.out.items in
    subst (λ t. IfOk c.type_keys.result (TypesLine c.args.rules.now c.args.line.now t before after))
    (sym c.in-Typing.is) c.type_keys.ensures.ok

pub returns-in-Typing-clause-err : goal.returns-in-Typing-clause-err
returns-in-Typing-clause-err g c =
    let said = g.C.Caller.said in
    let before = heard said c.args.caller.now c.args.out.now.items in
    let after = heard said c.type_keys.new.caller c.type_keys.new.out.items in
    subst (λ t. OnErr c.type_keys.result (BreaksLine c.args.rules.now c.args.line.now t before after))
    (sym c.in-Typing.is) c.type_keys.ensures.err
