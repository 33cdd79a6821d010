use Rattle.std.proofs.Common.{◌≡◌, ◌∙◌, ◌++◌, Some, ap, refl}
use Rattle.std.proofs.lemmas.Result.{on_ok_weaker, on_err_weaker}
use Rattle.skkserv_proto.specs.Replies.{reply_to}
use Rattle.typist_line.specs.Typings.{heard}
use Rattle.skk_server.proofs.client.answer_call.Goals as goal
use Rattle.skk_server.proofs.Requests.{call-breaks, call-answers}
use Rattle.skk_server.proofs.Results.{on_err}

pub returns-in_err-reply_bytes-in-Done-clause-err : goal.returns-in_err-reply_bytes-in-Done-clause-err
returns-in_err-reply_bytes-in-Done-clause-err g c =
    let said = g.C.Caller.said in
    let out = c.args.page.now.bytes.items in
    on_err c.from_residual.result
    (call-breaks c.args.request.now c.args.call.now c.call.result (heard said c.args.caller.now out)
    (heard said c.call.new.self out) c.call.ensures.said refl)

pub returns-in_ok-reply_bytes-in-Done-clause-ok : goal.returns-in_ok-reply_bytes-in-Done-clause-ok
returns-in_ok-reply_bytes-in-Done-clause-ok g c =
    let said = g.C.Caller.said in
    let out = c.args.page.now.bytes.items in
    let told : c.deref.result.now ≡ reply_to c.args.request.now (Some c.in-Done.reply) =
    c.deref.ensures.value ∙ c.in_ok-reply_bytes-in-Done.ensures in
    on_ok_weaker c.push.result
    (λ sent. call-answers c.args.request.now c.args.call.now c.call.result c.in-Done.reply
    (heard said c.args.caller.now out) (heard said c.call.new.self out)
    (heard said c.call.new.self c.push.new.self.bytes.items) c.in-Done.is c.call.ensures.said refl refl
    (sent ∙ ap (λ reply. out ++ reply) told))
    c.push.ensures.ok

pub returns-in_ok-reply_bytes-in-Done-clause-err : goal.returns-in_ok-reply_bytes-in-Done-clause-err
returns-in_ok-reply_bytes-in-Done-clause-err g c =
    let said = g.C.Caller.said in
    on_err_weaker c.push.result
    (call-breaks c.args.request.now c.args.call.now c.call.result
    (heard said c.args.caller.now c.args.page.now.bytes.items)
    (heard said c.call.new.self c.push.new.self.bytes.items) c.call.ensures.said)
    c.push.ensures.err

pub returns-in-Refused-clause-err : goal.returns-in-Refused-clause-err
returns-in-Refused-clause-err g c =
    let said = g.C.Caller.said in
    let out = c.args.page.now.bytes.items in
    call-breaks c.args.request.now c.args.call.now c.call.result (heard said c.args.caller.now out)
    (heard said c.call.new.self out) c.call.ensures.said refl
