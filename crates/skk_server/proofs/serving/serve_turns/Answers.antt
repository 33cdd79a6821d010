use Rattle.std.proofs.Common.{◌∙◌, refl}
use Rattle.skk_server.specs.Ends.{moved_link}
use Rattle.skk_server.proofs.serving.serve_turns.Goals as goal
use Rattle.skk_server.proofs.Turns.{unserved, so-far-new, so-far-on, so-far-ends, so-far-limit}

pub returns-in_default-clause-serves : goal.returns-in_default-clause-serves
returns-in_default-clause-serves g c =
    unserved c.args.service.now.rules.now g.K.Outside c.args.link.now (g.C.Caller.said c.args.caller.now)

pub loop-connection-init : goal.loop-connection-init
loop-connection-init g c = (
  so-far-new c.args.service.now.rules.now g.K.Outside c.args.link.now
      (g.C.Caller.said c.args.caller.now) c.in-Ok.connection.responder.talk c.in-Ok.connection.taken c.in-Ok.ensures.0
      c.in-Ok.ensures.1,
  c.in-Ok.ensures.2,
  refl,
)

pub returns-in-Err-clause-serves : goal.returns-in-Err-clause-serves
returns-in-Err-clause-serves g c =
    let said = g.C.Caller.said in
    so-far-ends c.args.service.now.rules.now g.K.Outside c.args.link.now c.loop-connection.link c.take_turn.new.link
    (said c.args.caller.now) (said c.loop-connection.caller) (said c.take_turn.new.caller)
    c.loop-connection.connection.responder.talk c.loop-connection.connection.taken c.in-Err.end
    c.loop-connection.invariant.0 c.in-Err.ensures.err

pub loop-connection-preserved : goal.loop-connection-preserved
loop-connection-preserved g c =
    let said = g.C.Caller.said in (
      so-far-on c.args.service.now.rules.now g.K.Outside c.args.link.now
          c.loop-connection.link c.take_turn.new.link (said c.args.caller.now) (said c.loop-connection.caller)
          (said c.take_turn.new.caller) c.loop-connection.connection.responder.talk c.take_turn.new.self.responder.talk
          c.loop-connection.connection.taken c.take_turn.new.self.taken c.loop-connection.invariant.0
          c.in_default-take_turn.ensures.ok c.take_turn.ensures.counted,
      c.take_turn.ensures.ready,
      c.take_turn.ensures.number ∙ c.loop-connection.invariant.2,
    )

pub returns-clause-serves : goal.returns-clause-serves
returns-clause-serves g c =
    so-far-limit c.args.service.now.rules.now (moved_link g.K.Outside c.args.link.now c.loop-connection.link)
    (g.C.Caller.said c.args.caller.now) (g.C.Caller.said c.loop-connection.caller)
    c.loop-connection.connection.responder.talk
    c.loop-connection.connection.taken c.bytes_lead_a_typist.ensures.talk c.loop-connection.invariant.0
    c.loop-connection-test.false
