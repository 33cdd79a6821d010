-- Records that are added to a file of a version.
use Rattle.std.proofs.Common.{◌≡◌, ℕ, List, sym, subst}
use Rattle.skk_calls.specs.States.{State}
use Rattle.learned_store.specs.Stores.{AddsAll}

-- what payloads add to a file of a version they add where the version is the same
pub all_at : {v w : ℕ} (added : List (List ℕ)) (state after : State) → v ≡ w → AddsAll w added state after
    → AddsAll v added state after
all_at added state after same adds = subst (λ n. AddsAll n added state after) (sym same) adds
