use Rattle.std.proofs.Common.{◌≡◌, ◌++◌, length, map}
use Rattle.skk_calls.specs.declared.answer.Answer.TheVariants.{Done}
use Rattle.batch_store.specs.Entries.{entered_at, tally_behind}
use Rattle.batch_store.proofs.entries.Entries.enter_replies.Given as goal

-- what is still to be entered makes of what was entered all that is to be
abbrev pub invariant-loop-call : goal.invariant-loop-call
invariant-loop-call g l = record {
  as_many : length l.call-iterator.b.rest.now ≡ length l.call-iterator.a.rest.now;
  notes : l.self.trace
      ++ entered_at g.D.Disk l.parts l.call-iterator.a.rest.now
      (map (λ reply. Done reply) l.call-iterator.b.rest.now)
      ≡ l.fn.self.trace ++ entered_at g.D.Disk l.parts l.fn.calls (map (λ reply. Done reply) l.fn.replies);
  tally : tally_behind l.self.tally (map (λ reply. Done reply) l.call-iterator.b.rest.now)
      ≡ tally_behind l.fn.self.tally (map (λ reply. Done reply) l.fn.replies);
}
