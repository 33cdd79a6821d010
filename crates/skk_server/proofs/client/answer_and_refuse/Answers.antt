use Rattle.std.proofs.Common.{sym, subst, refl}
use Rattle.std.proofs.lemmas.Result.{IfOk-weaker, on_err_weaker}
use Rattle.typist_line.specs.Typings.{heard}
use Rattle.skk_server.specs.Turns.{AnswersRequests, RefusesBehind}
use Rattle.skk_server.proofs.client.answer_and_refuse.Goals as goal
use Rattle.skk_server.proofs.Requests.{all-refused, all-ended, all-broken}

pub returns-in-More-clause-ok : goal.returns-in-More-clause-ok
returns-in-More-clause-ok g c =
    let said = g.C.Caller.said in
    let asked = c.args.requests.now in
    let before = heard said c.args.caller.now c.args.page.now.bytes.items in
    let middle = heard said c.answer_requests.new.caller c.answer_requests.new.page.bytes.items in
    let after = heard said c.answer_requests.new.caller c.refuse.new.page.bytes.items in
    let all = subst (AnswersRequests asked before middle) c.in-More.is c.in_ok-answer_requests.ensures.ok in
    IfOk-weaker c.refuse.result _ (RefusesBehind asked before after)
    (λ going told. subst (RefusesBehind asked before after) (sym told.0)
    (all-refused asked before middle after all refl told.1)) c.refuse.ensures.ok

pub returns-in-More-clause-err : goal.returns-in-More-clause-err
returns-in-More-clause-err g c =
    let said = g.C.Caller.said in
    let before = heard said c.args.caller.now c.args.page.now.bytes.items in
    let middle = heard said c.answer_requests.new.caller c.answer_requests.new.page.bytes.items in
    let after = heard said c.answer_requests.new.caller c.refuse.new.page.bytes.items in
    on_err_weaker c.refuse.result
    (λ kept. all-broken c.args.requests.now before middle after _ c.in_ok-answer_requests.ensures.ok refl kept)
    c.refuse.ensures.err

pub returns-in-Over-clause-ok : goal.returns-in-Over-clause-ok
returns-in-Over-clause-ok g c =
    let said = g.C.Caller.said in
    let asked = c.args.requests.now in
    let before = heard said c.args.caller.now c.args.page.now.bytes.items in
    let middle = heard said c.answer_requests.new.caller c.answer_requests.new.page.bytes.items in
    all-ended asked before middle
    (subst (AnswersRequests asked before middle) c.in-Over.is c.in_ok-answer_requests.ensures.ok)
