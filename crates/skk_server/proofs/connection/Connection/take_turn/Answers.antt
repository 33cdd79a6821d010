use Rattle.std.proofs.Common.{List, ℕ, take, sym, subst, arith, length-take}
use Rattle.std.proofs.lemmas.Result.{IfErr-weaker}
use Rattle.std.specs.Io.KnownBytes.{Consumes}
use Rattle.skk_server.specs.declared.talk.Talk.{Talk}
use Rattle.skk_server.specs.Ends.{moved_link}
use Rattle.skk_server.specs.Turns.{EndsRead}
use Rattle.skk_server.proofs.connection.Connection.take_turn.Goals as goal
use Rattle.skk_server.proofs.Turns.{ends-unread, turn-ends}

pub returns-in-Err-clause-err : goal.returns-in-Err-clause-err
returns-in-Err-clause-err g c =
    ends-unread c.args.service.now.rules.now (moved_link g.K.Outside c.args.link.now c.read.new.link)
    (g.C.Caller.said c.args.caller.now) c.args.self.now.responder.talk c.args.self.now.taken c.in-Err.end
    c.bytes_lead_a_typist.ensures.talk c.exchange_of_a_front.ensures c.in-Err.ensures.err c.read.ensures.written
    (omega (arith, c.requires.left))

pub returns-clause-err : goal.returns-clause-err
returns-clause-err g c =
    let rules = c.args.service.now.rules.now in
    let left = g.K.Outside.left in
    let written = g.K.Outside.written in
    let faults = g.K.Outside.faults in
    let said = g.C.Caller.said in
    let piece = take c.in-Ok.count c.deref.result.now in
    let read = c.in-Ok.ensures.ok in
    let fits = length-take c.in-Ok.count c.deref.result.now in
    let takes = subst (λ l. Consumes (left c.args.link.now) l piece) (sym c.answer.ensures.left)
    (subst (λ (room : List ℕ). Consumes (left c.args.link.now) (left c.read.new.link) (take c.in-Ok.count room))
    (sym c.deref.ensures.value) read.5) in
    IfErr-weaker c.answer.result _ _
    (λ end ends'. turn-ends rules g.K.Outside c.args.link.now c.read.new.link c.answer.new.link (said c.args.caller.now)
    (said c.answer.new.caller) c.args.self.now.responder.talk c.args.self.now.taken piece end
    c.bytes_lead_a_typist.ensures.talk
    (subst (λ (t : Talk). EndsRead rules
    (moved_link g.K.Outside c.read.new.link c.answer.new.link) (said c.args.caller.now) (said c.answer.new.caller) t
    piece end) c.read.ensures.talk ends') c.read.ensures.written c.read.ensures.counted takes
    (omega (arith, read.1, fits)) (omega (arith, read.2, read.4, fits))) c.answer.ensures.err
