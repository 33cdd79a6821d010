use Rattle.std.proofs.Common.{Err, ◌∙◌, ap, sym, subst}
use Rattle.std.proofs.lemmas.Result.{IfOk-weaker, on_err_weaker}
use Rattle.skkserv_proto.specs.Feeding.{Reads}
use Rattle.typist_line.specs.Typings.{heard}
use Rattle.skk_server.proofs.client.answer_client.Goals as goal
use Rattle.skk_server.proofs.Requests.{feeds-reads, read-answers, read-refuses, read-breaks, unread-breaks}

pub returns-in-Ok-clause-ok : goal.returns-in-Ok-clause-ok
returns-in-Ok-clause-ok g c =
    let said = g.C.Caller.said in
    let feeder = c.args.feeder.now in
    let bytes = c.args.bytes.now in
    let asked = c.deref.result.now in
    let before = heard said c.args.caller.now c.args.page.now.bytes.items in
    let after = heard said c.answer_requests.new.caller c.answer_requests.new.page.bytes.items in
    let reads = subst (Reads feeder bytes c.feed.new.self) (sym c.deref.ensures.value)
    (feeds-reads feeder c.feed.new.self bytes c.new-requests.result.items c.feed.new.into.items
    c.new-requests.ensures.items (c.feed.ensures.reads (λ e. cc (c.in-Ok.is, e)))) in
    IfOk-weaker c.answer_requests.result _ _
    (λ going answers. read-answers bytes feeder c.feed.new.self asked before after going
    c.requests_of_a_front.ensures.more reads
    (c.feed.ensures.good c.in-Ok.is) answers)
    c.answer_requests.ensures.ok

pub returns-in-Ok-clause-err : goal.returns-in-Ok-clause-err
returns-in-Ok-clause-err g c =
    let said = g.C.Caller.said in
    let feeder = c.args.feeder.now in
    let bytes = c.args.bytes.now in
    let before = heard said c.args.caller.now c.args.page.now.bytes.items in
    let after = heard said c.answer_requests.new.caller c.answer_requests.new.page.bytes.items in
    let reads = subst (Reads feeder bytes c.feed.new.self) (sym c.deref.ensures.value)
    (feeds-reads feeder c.feed.new.self bytes c.new-requests.result.items c.feed.new.into.items
    c.new-requests.ensures.items (c.feed.ensures.reads (λ e. cc (c.in-Ok.is, e)))) in
    on_err_weaker c.answer_requests.result
    (λ breaks. read-breaks bytes feeder c.feed.new.self c.deref.result.now before after reads breaks)
    c.answer_requests.ensures.err

pub returns-in-Err-Bad-clause-ok : goal.returns-in-Err-Bad-clause-ok
returns-in-Err-Bad-clause-ok g c =
    let said = g.C.Caller.said in
    let feeder = c.args.feeder.now in
    let bytes = c.args.bytes.now in
    let asked = c.deref-in-Err-Bad.result.now in
    let before = heard said c.args.caller.now c.args.page.now.bytes.items in
    let after = heard said c.answer_and_refuse.new.caller c.answer_and_refuse.new.page.bytes.items in
    let reads = subst (Reads feeder bytes c.feed.new.self) (sym c.deref-in-Err-Bad.ensures.value)
    (feeds-reads feeder c.feed.new.self bytes c.new-requests.result.items c.feed.new.into.items
    c.new-requests.ensures.items (c.feed.ensures.reads (λ e. cc (c.in-Err-Bad.is, c.in-Err-Bad.field-0-is, e)))) in
    let is_bad = c.in-Err-Bad.is ∙ ap Err c.in-Err-Bad.field-0-is in
    IfOk-weaker c.answer_and_refuse.result _ _
    (λ going refuses. read-refuses bytes feeder c.feed.new.self asked before after going c.in-Err-Bad.field-0-0
    c.requests_of_a_front.ensures.bad reads
    (c.feed.ensures.bad c.in-Err-Bad.field-0-0 is_bad) refuses)
    c.answer_and_refuse.ensures.ok

pub returns-in-Err-Bad-clause-err : goal.returns-in-Err-Bad-clause-err
returns-in-Err-Bad-clause-err g c =
    let said = g.C.Caller.said in
    let feeder = c.args.feeder.now in
    let bytes = c.args.bytes.now in
    let before = heard said c.args.caller.now c.args.page.now.bytes.items in
    let after = heard said c.answer_and_refuse.new.caller c.answer_and_refuse.new.page.bytes.items in
    let reads = subst (Reads feeder bytes c.feed.new.self) (sym c.deref-in-Err-Bad.ensures.value)
    (feeds-reads feeder c.feed.new.self bytes c.new-requests.result.items c.feed.new.into.items
    c.new-requests.ensures.items (c.feed.ensures.reads (λ e. cc (c.in-Err-Bad.is, c.in-Err-Bad.field-0-is, e)))) in
    on_err_weaker c.answer_and_refuse.result
    (λ breaks. read-breaks bytes feeder c.feed.new.self c.deref-in-Err-Bad.result.now before after reads breaks)
    c.answer_and_refuse.ensures.err

pub returns-clause-err : goal.returns-clause-err
returns-clause-err g c =
    unread-breaks c.args.bytes.now c.args.feeder.now
    (heard g.C.Caller.said c.args.caller.now c.args.page.now.bytes.items)
