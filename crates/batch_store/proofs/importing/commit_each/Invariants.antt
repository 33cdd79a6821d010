use Rattle.std.proofs.Common.{◌≡◌, ◌++◌, ◌∷◌, [], Ok, map}
use Rattle.std.specs.Vec.Iter.{into_iter_items}
use Rattle.batch_store.specs.Pieces.{CommitsGroups}
use Rattle.batch_store.proofs.importing.commit_each.Given as goal

-- those so far are served, and the others are left
abbrev pub invariant-loop-call : goal.invariant-loop-call
invariant-loop-call g l = record {
  all : l.yielded ++ into_iter_items l.call-iterator ≡ l.fn.calls;
  served : CommitsGroups g.D.Disk l.fn.batch l.batch (map (λ call. call ∷ []) l.yielded) (Ok tt);
}
