use Rattle.std.proofs.Common.{◌+◌, ◌∷◌, ◌∙◌, drop, ap, refl, arith}
use Rattle.std.proofs.lemmas.Result.{IfOk-from_err}
use Rattle.skkserv_proto.specs.declared.request.Request.{Request}
use Rattle.typist_line.specs.Typings.{heard}
use Rattle.skk_server.proofs.client.answer_requests.Goals as goal
use Rattle.skk_server.proofs.Requests.{first-none, first-next, first-broken, first-ended, first-all, at-place}
use Rattle.skk_server.proofs.Results.{on_err}

pub loop-request-init : goal.loop-request-init
loop-request-init g c =
    (first-none c.args.requests.now (heard g.C.Caller.said c.args.caller.now c.args.page.now.bytes.items), refl)

pub returns-in-End-clause-ok : goal.returns-in-End-clause-ok
returns-in-End-clause-ok g c =
    let asked = c.args.requests.now in
    let count = c.loop-request.request-index in
    first-ended asked count (heard g.C.Caller.said c.args.caller.now c.args.page.now.bytes.items)
    (heard g.C.Caller.said c.loop-request.caller c.loop-request.page.bytes.items)
    (at-place asked count c.request-item.result c.loop-request-test.true c.request-item.is
    ∙ ap (λ (r : Request). r ∷ drop (count + 1) asked) c.in-End.is)
    c.loop-request.invariant.0

pub returns-in-End-clause-number : goal.returns-in-End-clause-number
returns-in-End-clause-number g c = c.loop-request.invariant.1

pub returns-in_err-answer_request : goal.returns-in_err-answer_request
returns-in_err-answer_request g c =
    let said = g.C.Caller.said in
    let asked = c.args.requests.now in
    let count = c.loop-request.request-index in
    record {
      ok = IfOk-from_err c.from_residual.result _ c.from_residual.ensures.0;
      err = on_err c.from_residual.result
          (first-broken asked count c.request-item.result
          (heard said c.args.caller.now c.args.page.now.bytes.items)
          (heard said c.loop-request.caller c.loop-request.page.bytes.items)
          (heard said c.answer_request.new.caller c.answer_request.new.page.bytes.items)
          (at-place asked count c.request-item.result c.loop-request-test.true c.request-item.is)
          c.in_default.not-End c.loop-request.invariant.0 c.in_err-answer_request.ensures.err);
      number = c.in_err-answer_request.ensures.number ∙ c.loop-request.invariant.1;
    }

pub loop-request-preserved : goal.loop-request-preserved
loop-request-preserved g c =
    let said = g.C.Caller.said in
    let asked = c.args.requests.now in
    let count = c.loop-request.request-index in (
      first-next asked count c.request-item.result
          (heard said c.args.caller.now c.args.page.now.bytes.items)
          (heard said c.loop-request.caller c.loop-request.page.bytes.items)
          (heard said c.answer_request.new.caller c.answer_request.new.page.bytes.items)
          (at-place asked count c.request-item.result c.loop-request-test.true c.request-item.is)
          c.in_default.not-End c.loop-request.invariant.0 c.in_ok-answer_request.ensures.ok,
      c.in_ok-answer_request.ensures.number ∙ c.loop-request.invariant.1,
    )

pub returns-clause-ok : goal.returns-clause-ok
returns-clause-ok g c =
    first-all c.args.requests.now c.loop-request.request-index
    (heard g.C.Caller.said c.args.caller.now c.args.page.now.bytes.items)
    (heard g.C.Caller.said c.loop-request.caller c.loop-request.page.bytes.items)
    (omega arith) c.loop-request.invariant.0

pub returns-clause-number : goal.returns-clause-number
returns-clause-number g c = c.loop-request.invariant.1
