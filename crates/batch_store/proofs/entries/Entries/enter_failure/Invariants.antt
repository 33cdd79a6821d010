use Rattle.std.proofs.Common.{◌≡◌, ◌++◌, length, map}
use Rattle.batch_store.specs.Entries.{answer_planned, entered_at, tally_behind}
use Rattle.batch_store.proofs.entries.Entries.enter_failure.Given as goal

-- what is still to be entered makes of what was entered all that is to be
abbrev pub invariant-loop-call : goal.invariant-loop-call
invariant-loop-call g l = record {
  as_many : length l.call-iterator.b.rest.now ≡ length l.call-iterator.a.rest.now;
  notes : l.self.trace
      ++ entered_at g.D.Disk l.parts l.call-iterator.a.rest.now (map answer_planned l.call-iterator.b.rest.now)
      ≡ l.fn.self.trace ++ entered_at g.D.Disk l.parts l.fn.calls (map answer_planned l.fn.plans);
  tally : tally_behind l.self.tally (map answer_planned l.call-iterator.b.rest.now)
      ≡ tally_behind l.fn.self.tally (map answer_planned l.fn.plans);
}
