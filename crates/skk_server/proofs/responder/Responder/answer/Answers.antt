use Rattle.std.proofs.Common.{[], sym, subst}
use Rattle.skk_server.specs.declared.end.End.TheVariants.{LinkFault}
use Rattle.skk_server.specs.declared.talk.Talk.{Talk}
use Rattle.skk_server.specs.Ends.{moved_link}
use Rattle.skk_server.specs.Turns.{AnswersRead, EndsRead}
use Rattle.skk_server.proofs.responder.Responder.answer.Goals as goal
use Rattle.skk_server.proofs.Results.{if_err, written-some}
use Rattle.skk_server.proofs.Turns.{read-sent, read-unsent}

-- what was kept could not be sent
pub returns-in_err-send-clause-err : goal.returns-in_err-send-clause-err
returns-in_err-send-clause-err g c =
    let rules = c.args.service.now.rules.now in
    let said = g.C.Caller.said in
    let written = g.K.Outside.written in
    let faults = g.K.Outside.faults in
    let link = moved_link g.K.Outside c.args.link.now c.send.new.link in
    let kept = c.answer_parts.new.self.page.bytes.items in
    let some = written-some c.send.result (written c.answer_parts.new.link) (written c.send.new.link) kept
    c.send.ensures.ok c.send.ensures.err in
    if_err (EndsRead rules link (said c.args.caller.now) (said c.answer_parts.new.caller)
    c.args.self.now.talk c.args.bytes.now) c.from_residual-in_err-send.result LinkFault
    c.from_residual-in_err-send.ensures.1
    (read-unsent rules link (written c.answer_parts.new.link) (faults c.answer_parts.new.link)
    (said c.args.caller.now) (said c.answer_parts.new.caller) c.args.self.now.talk c.answer_parts.new.self.talk kept
    some.0 c.args.bytes.now c.bytes_lead_a_typist.ensures.talk c.exchange_of_a_front.ensures
    c.in_ok-answer_parts.ensures.ok some.1 some.2 c.answer_parts.ensures.counted c.in_err-send.ensures.failed)

-- all was sent
pub returns-clause-ok : goal.returns-clause-ok
returns-clause-ok g c =
    let rules = c.args.service.now.rules.now in
    let said = g.C.Caller.said in
    let written = g.K.Outside.written in
    let parts = c.answer_parts.new in
    subst (λ (t : Talk). AnswersRead rules (written c.args.link.now) (written c.send.new.link)
    (said c.args.caller.now) (said parts.caller) c.args.self.now.talk t [] c.args.bytes.now) (sym c.send.ensures.talk)
    (read-sent rules (written c.args.link.now) (written parts.link) (written c.send.new.link)
    (said c.args.caller.now) (said parts.caller) c.args.self.now.talk parts.self.talk parts.self.page.bytes.items
    c.args.bytes.now c.in_ok-answer_parts.ensures.ok c.in_ok-send.ensures.ok)
