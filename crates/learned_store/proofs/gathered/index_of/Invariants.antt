use Rattle.std.specs.Vec.Iter.{into_iter_items}
use Rattle.skk_calls.specs.States.{State}
use Rattle.learned_store.specs.Gathering.{AreOf, ListMap, are_apart, row_placed}
use Rattle.learned_store.proofs.Gathering.{IsPut}
use Rattle.learned_store.proofs.gathered.index_of.Given as goal

-- some rows are put, and the others are left
abbrev pub invariant-loop-placed : goal.invariant-loop-placed
invariant-loop-placed l = record {
  apart : are_apart (into_iter_items l.placed-iterator);
  put : (state : State) (lists : ListMap) → AreOf state l.counts lists (row_placed l.fn.rows.items)
      → IsPut state l.index.state (row_placed (into_iter_items l.placed-iterator));
}
