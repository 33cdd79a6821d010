use Rattle.std.proofs.Common.{◌≡◌, ◌≤◌, List, ℕ, ◌++◌, length}
use Rattle.skk_server.specs.Turns.{AnswersRead}
use Rattle.skk_server.proofs.responder.Responder.answer_parts.Given as goal

-- what stands before the rest was answered
abbrev pub invariant-loop-rest : goal.invariant-loop-rest
invariant-loop-rest g l = record {
  front : (front : List ℕ) × (front ++ l.rest ≡ l.bytes)
      × AnswersRead l.service.rules.now (g.K.Outside.written l.fn.link) (g.K.Outside.written l.link)
      (g.C.Caller.said l.fn.caller) (g.C.Caller.said l.caller) l.fn.self.talk l.self.talk l.self.page.bytes.items front;
  left : g.K.Outside.left l.link ≡ g.K.Outside.left l.fn.link;
  number : g.C.Caller.number l.caller ≡ g.C.Caller.number l.fn.caller;
  counted : g.K.Outside.faults l.fn.link ≤ g.K.Outside.faults l.link;
}

abbrev pub decreases-loop-rest : goal.decreases-loop-rest
decreases-loop-rest g l = length l.rest
