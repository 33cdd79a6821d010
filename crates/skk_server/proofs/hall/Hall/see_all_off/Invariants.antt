use Rattle.std.proofs.Common.{◌≡◌, ◌+◌}
use Rattle.std.specs.VecDeque.{deque_len}
use Rattle.skk_server.specs.Stages.{CountsStay, HasPlaces, Stage}
use Rattle.skk_server.proofs.hall.Hall.see_all_off.Given as goal

-- so many have ended
abbrev pub invariant-loop : goal.invariant-loop
invariant-loop g l = record {
  ended : deque_len l.self.works + l.counter ≡ deque_len l.fn.self.works;
  places : HasPlaces l.self;
  counts : CountsStay l.fn.self l.self;
  coming : g.N.Listener.coming l.net ≡ g.N.Listener.coming l.fn.net;
  faults : g.N.Listener.faults l.net ≡ g.N.Listener.faults l.fn.net;
  stage : Stage g.N.Listener g.L.Outside
      g.C.Caller g.S.Kept l.start l.net l.self;
}
