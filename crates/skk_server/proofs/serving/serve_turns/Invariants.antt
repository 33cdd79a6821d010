use Rattle.std.proofs.Common.{◌≡◌, ◌-◌}
use Rattle.skk_server.specs.Ends.{moved_link, most_bytes}
use Rattle.skk_server.specs.Turns.{ServesSoFar, IsReady}
use Rattle.skk_server.proofs.serving.serve_turns.Given as goal

-- it was served so far, and is ready to read
abbrev pub invariant-loop-connection : goal.invariant-loop-connection
invariant-loop-connection g l =
    ServesSoFar l.service.rules.now (moved_link g.K.Outside l.fn.link l.link) (g.C.Caller.said l.fn.caller)
    (g.C.Caller.said l.caller) l.connection.responder.talk l.connection.taken
    × IsReady l.connection × (g.C.Caller.number l.caller ≡ g.C.Caller.number l.fn.caller)

abbrev pub decreases-loop-connection : goal.decreases-loop-connection
decreases-loop-connection g l = most_bytes - l.connection.taken
