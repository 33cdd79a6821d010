use Rattle.std.proofs.Common.{sym, subst, IfOk, OnErr}
use Rattle.std.proofs.lemmas.Result.{IfOk-weaker, on_err_weaker}
use Rattle.typist_line.specs.declared.typing.Going.TheVariants.{More}
use Rattle.typist_line.specs.Typings.{heard}
use Rattle.skk_server.specs.declared.talk.Talk.TheVariants.{Client}
use Rattle.skk_server.specs.Turns.{AnswersOf, BreaksOf}
use Rattle.skk_server.proofs.Standing.{answers-nobody, answers-client, breaks-client}
use Rattle.skk_server.proofs.talk.Talk.go_on.Goals as goal

pub returns-in-New-clause-ok : goal.returns-in-New-clause-ok
returns-in-New-clause-ok g c =
    let rules = c.args.rules.now in
    let bytes = c.args.bytes.now in
    let here = heard g.C.Caller.said c.args.caller.now c.args.page.now.bytes.items in
    subst (λ talk. AnswersOf rules bytes talk talk here here More) (sym c.in-New.is) (answers-nobody rules bytes here)

pub returns-in-Client-clause-ok : goal.returns-in-Client-clause-ok
returns-in-Client-clause-ok g c =
    let said = g.C.Caller.said in
    let rules = c.args.rules.now in
    let bytes = c.args.bytes.now in
    let feeder' = c.answer_client.new.feeder in
    let before = heard said c.args.caller.now c.args.page.now.bytes.items in
    let after = heard said c.answer_client.new.caller c.answer_client.new.page.bytes.items in
    subst (λ talk. IfOk c.answer_client.result (AnswersOf rules bytes talk (Client feeder') before after))
    (sym c.in-Client.is)
    (IfOk-weaker c.answer_client.result _ _
    (λ going answers. answers-client rules bytes c.in-Client.feeder feeder' before after going answers)
    c.answer_client.ensures.ok)

pub returns-in-Client-clause-err : goal.returns-in-Client-clause-err
returns-in-Client-clause-err g c =
    let said = g.C.Caller.said in
    let rules = c.args.rules.now in
    let bytes = c.args.bytes.now in
    let before = heard said c.args.caller.now c.args.page.now.bytes.items in
    let after = heard said c.answer_client.new.caller c.answer_client.new.page.bytes.items in
    subst (λ talk. OnErr c.answer_client.result (BreaksOf rules bytes talk before after)) (sym c.in-Client.is)
    (on_err_weaker c.answer_client.result
    (breaks-client rules bytes c.in-Client.feeder before after c.exchange_of_a_front.ensures)
    c.answer_client.ensures.err)

pub returns-in-Typist-clause-err : goal.returns-in-Typist-clause-err
returns-in-Typist-clause-err g c =
    let said = g.C.Caller.said in
    let rules = c.args.rules.now in
    let bytes = c.args.bytes.now in
    let before = heard said c.args.caller.now c.args.page.now.bytes.items in
    let after = heard said c.answer_typist.new.caller c.answer_typist.new.page.bytes.items in
    subst (λ talk. OnErr c.answer_typist.result (BreaksOf rules bytes talk before after)) (sym c.in-Typist.is)
    c.answer_typist.ensures.err
