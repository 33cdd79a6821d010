use Rattle.std.proofs.Common.{◌≡◌, ◌++◌}
use Rattle.std.specs.Vec.Iter.{into_iter_items}
use Rattle.skk_calls.specs.States.{State}
use Rattle.skk_journal.specs.Found.{payloads}
use Rattle.learned_store.specs.Gathering.{Gathers}
use Rattle.learned_store.specs.Recovered.{Leave}
use Rattle.learned_store.proofs.recovery.recover.Given as goal

-- what the records so far leave is gathered, and the others are left
abbrev pub invariant-loop-found : goal.invariant-loop-found
invariant-loop-found l = record {
  state : State;
  all : l.yielded ++ into_iter_items l.found-iterator ≡ l.fn.records;
  left : Leave (record { version = l.fn.version; records = payloads l.yielded }) state;
  gathers : Gathers l.gathered state;
}
