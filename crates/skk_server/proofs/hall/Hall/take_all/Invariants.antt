use Rattle.std.proofs.Common.{◌≡◌, ◌+◌}
use Rattle.skk_server.specs.Stages.{accepted_in, passes_in, HasPlaces, Stage}
use Rattle.skk_server.proofs.hall.Hall.take_all.Given as goal

-- so many were taken in, each with a pass
abbrev pub invariant-loop : goal.invariant-loop
invariant-loop g l = record {
  owns : g.W.Office.owns l.server.office.now l.roll;
  drawn : g.W.Office.drawn l.roll ≡ l.start.first + passes_in l.self;
  accepted : accepted_in l.self ≡ l.counter;
  passes : passes_in l.self ≡ l.counter;
  places : HasPlaces l.self;
  stage : Stage g.N.Listener g.L.Outside
      g.C.Caller g.S.Kept l.start l.net l.self;
}
