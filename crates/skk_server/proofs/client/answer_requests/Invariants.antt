use Rattle.std.proofs.Common.{◌≡◌}
use Rattle.typist_line.specs.Typings.{heard}
use Rattle.skk_server.proofs.Requests.{AnswersFirst}
use Rattle.skk_server.proofs.client.answer_requests.Given as goal

-- the requests in front of the place were answered, and the caller has its number
abbrev pub invariant-loop-request : goal.invariant-loop-request
invariant-loop-request g l =
    AnswersFirst l.requests l.request-index (heard g.C.Caller.said l.fn.caller l.fn.page.bytes.items)
    (heard g.C.Caller.said l.caller l.page.bytes.items)
    × (g.C.Caller.number l.caller ≡ g.C.Caller.number l.fn.caller)
