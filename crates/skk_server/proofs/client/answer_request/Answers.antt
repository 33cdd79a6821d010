use Rattle.std.proofs.Common.{◌≡◌, ◌∙◌, ◌++◌, None, ap, sym, refl}
use Rattle.skkserv_proto.specs.Replies.{reply_to}
use Rattle.std.proofs.lemmas.Result.{on_ok_weaker, on_err_weaker}
use Rattle.typist_line.specs.Typings.{heard}
use Rattle.skk_calls.specs.Runs.{at, anywhere}
use Rattle.skk_server.specs.Turns.{Sends, SendsNone}
use Rattle.skk_server.proofs.client.answer_request.Goals as goal
use Rattle.skk_server.proofs.Requests.{call-asked, reply-answers, silent-breaks}
use Rattle.skk_server.proofs.Results.{on_err}

pub returns-in_err-call-clause-err : goal.returns-in_err-call-clause-err
returns-in_err-call-clause-err g c =
    let here = heard g.C.Caller.said c.args.caller.now c.args.page.now.bytes.items in
    on_err c.from_residual.result (silent-breaks c.args.request.now here here refl refl)

pub returns-in_err-reply_bytes-in-None-clause-err : goal.returns-in_err-reply_bytes-in-None-clause-err
returns-in_err-reply_bytes-in-None-clause-err g c =
    let here = heard g.C.Caller.said c.args.caller.now c.args.page.now.bytes.items in
    on_err c.from_residual-in_err-reply_bytes-in-None.result (silent-breaks c.args.request.now here here refl refl)

pub returns-in-Some-clause-ok : goal.returns-in-Some-clause-ok
returns-in-Some-clause-ok g c =
    let before = heard g.C.Caller.said c.args.caller.now c.args.page.now.bytes.items in
    let after = heard g.C.Caller.said c.answer_call.new.caller c.answer_call.new.page.bytes.items in
    on_ok_weaker c.answer_call.result
    (call-asked c.args.request.now c.in-Some.call (at (λ rest. rest)) before.said after.said (Sends before after)
    (sym c.in_ok-call.ensures.call ∙ c.in-Some.is))
    c.answer_call.ensures.ok

pub returns-in-Some-clause-err : goal.returns-in-Some-clause-err
returns-in-Some-clause-err g c =
    let before = heard g.C.Caller.said c.args.caller.now c.args.page.now.bytes.items in
    let after = heard g.C.Caller.said c.answer_call.new.caller c.answer_call.new.page.bytes.items in
    on_err_weaker c.answer_call.result
    (call-asked c.args.request.now c.in-Some.call anywhere before.said after.said (SendsNone before after)
    (sym c.in_ok-call.ensures.call ∙ c.in-Some.is))
    c.answer_call.ensures.err

pub returns-in_ok-reply_bytes-in-None-clause-ok : goal.returns-in_ok-reply_bytes-in-None-clause-ok
returns-in_ok-reply_bytes-in-None-clause-ok g c =
    let before = heard g.C.Caller.said c.args.caller.now c.args.page.now.bytes.items in
    let after = heard g.C.Caller.said c.args.caller.now c.push.new.self.bytes.items in
    let told : c.deref.result.now ≡ reply_to c.args.request.now None =
    c.deref.ensures.value ∙ c.in_ok-reply_bytes-in-None.ensures in
    on_ok_weaker c.push.result
    (λ sent. reply-answers c.args.request.now before after (sym c.in_ok-call.ensures.call ∙ c.in-None.is) refl
    (sent ∙ ap (λ reply. c.args.page.now.bytes.items ++ reply) told))
    c.push.ensures.ok

pub returns-in_ok-reply_bytes-in-None-clause-err : goal.returns-in_ok-reply_bytes-in-None-clause-err
returns-in_ok-reply_bytes-in-None-clause-err g c =
    let before = heard g.C.Caller.said c.args.caller.now c.args.page.now.bytes.items in
    let after = heard g.C.Caller.said c.args.caller.now c.push.new.self.bytes.items in
    on_err_weaker c.push.result (λ kept. silent-breaks c.args.request.now before after refl kept) c.push.ensures.err
