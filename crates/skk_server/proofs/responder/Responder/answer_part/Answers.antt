use Rattle.std.proofs.Common.{subst}
use Rattle.typist_line.specs.Typings.{heard}
use Rattle.skk_server.specs.declared.end.End.TheVariants.{LinkFault}
use Rattle.skk_server.specs.Ends.{moved_link}
use Rattle.skk_server.specs.Turns.{Answers, EndsPart}
use Rattle.skk_server.proofs.responder.Responder.answer_part.Goals as goal
use Rattle.skk_server.proofs.Results.{if_err, written-some}
use Rattle.skk_server.proofs.Turns.{part-over, part-unsent, part-broken}

-- the page was full, and could not be sent
pub returns-in_err-send-in-Ok-More-2-clause-err : goal.returns-in_err-send-in-Ok-More-2-clause-err
returns-in_err-send-in-Ok-More-2-clause-err g c =
    let rules = c.args.service.now.rules.now in
    let said = g.C.Caller.said in
    let written = g.K.Outside.written in
    let link = moved_link g.K.Outside c.args.link.now c.send.new.link in
    let out = c.args.self.now.page.bytes.items in
    let out' = c.answer.new.page.bytes.items in
    let part = c.args.part.now in
    let some = written-some c.send.result (written c.args.link.now) (written c.send.new.link) out' c.send.ensures.ok
    c.send.ensures.err in
    if_err (EndsPart rules link (said c.args.caller.now) (said c.answer.new.caller) c.args.self.now.talk out
    part) c.from_residual.result LinkFault c.from_residual.ensures.1
    (part-unsent rules link (said c.args.caller.now) (said c.answer.new.caller) c.args.self.now.talk
    c.answer.new.self part out out' some.0 c.in-Ok-More.field-0 c.bytes_lead_a_typist.ensures.talk
    c.exchange_of_a_front.ensures c.in-Ok-More.ensures.ok some.1 some.2
    c.in_err-send-in-Ok-More-2.ensures.failed)

-- the last page could not be sent
pub returns-in_err-send-in-Ok-Over-clause-err : goal.returns-in_err-send-in-Ok-Over-clause-err
returns-in_err-send-in-Ok-Over-clause-err g c =
    let rules = c.args.service.now.rules.now in
    let said = g.C.Caller.said in
    let written = g.K.Outside.written in
    let link = moved_link g.K.Outside c.args.link.now c.send-in-Ok-Over.new.link in
    let out = c.args.self.now.page.bytes.items in
    let out' = c.answer.new.page.bytes.items in
    let part = c.args.part.now in
    let some = written-some c.send-in-Ok-Over.result (written c.args.link.now) (written c.send-in-Ok-Over.new.link)
    out' c.send-in-Ok-Over.ensures.ok c.send-in-Ok-Over.ensures.err in
    if_err (EndsPart rules link (said c.args.caller.now) (said c.answer.new.caller) c.args.self.now.talk out
    part) c.from_residual-in_err-send-in-Ok-Over.result LinkFault c.from_residual-in_err-send-in-Ok-Over.ensures.1
    (part-unsent rules link (said c.args.caller.now) (said c.answer.new.caller) c.args.self.now.talk
    c.answer.new.self part out out' some.0 c.in-Ok-Over.field-0 c.bytes_lead_a_typist.ensures.talk
    c.exchange_of_a_front.ensures c.in-Ok-Over.ensures.ok some.1 some.2
    c.in_err-send-in-Ok-Over.ensures.failed)

-- it was sent, and the connection is over
pub returns-in_ok-send-in-Ok-Over-clause-err : goal.returns-in_ok-send-in-Ok-Over-clause-err
returns-in_ok-send-in-Ok-Over-clause-err g c =
    let rules = c.args.service.now.rules.now in
    let said = g.C.Caller.said in
    let out = c.args.self.now.page.bytes.items in
    let out' = c.answer.new.page.bytes.items in
    let before = heard said c.args.caller.now out in
    let after = heard said c.answer.new.caller out' in
    part-over rules (moved_link g.K.Outside c.args.link.now c.send-in-Ok-Over.new.link) (said c.args.caller.now)
    (said c.answer.new.caller) c.args.self.now.talk c.answer.new.self c.args.part.now out out'
    (subst (Answers rules c.args.part.now c.args.self.now.talk c.answer.new.self before after)
    c.in-Ok-Over.field-0-is c.in-Ok-Over.ensures.ok)
    c.in_ok-send-in-Ok-Over.ensures.ok

-- memory was out
pub returns-in-Err-clause-err : goal.returns-in-Err-clause-err
returns-in-Err-clause-err g c =
    let rules = c.args.service.now.rules.now in
    let said = g.C.Caller.said in
    let written = g.K.Outside.written in
    let link = moved_link g.K.Outside c.args.link.now c.send-sent.new.link in
    let out' = c.answer.new.page.bytes.items in
    let some = written-some c.send-sent.result (written c.args.link.now) (written c.send-sent.new.link) out'
    c.send-sent.ensures.ok c.send-sent.ensures.err in
    part-broken rules link (said c.args.caller.now) (said c.answer.new.caller) c.args.self.now.talk
    c.args.part.now c.args.self.now.page.bytes.items out' some.0 c.exchange_of_a_front.ensures c.in-Err.ensures.err
    some.1 some.2
