-- A call that gives no list of books leaves the lists as they were.
use Rattle.std.proofs.Common.{◌≡◌, Bool, true, false, cond, refl}
use Rattle.skk_calls.specs.declared.call.Call.{Call}
use Rattle.skk_calls.specs.declared.call.Call.TheVariants.{Lookup, Complete, Learn, Purge, Annotate, Share, Unlearn}
use Rattle.skk_calls.specs.Dictionary.{after, is_share, moves, state_moved}
use Rattle.skk_calls.specs.States.{State}

-- where it is made
lists_moved : (state : State) (call : Call) → is_share call ≡ false → (state_moved state call).lists ≡ state.lists
lists_moved state (Lookup who key okuri) e = refl
lists_moved state (Complete who prefix) e = refl
lists_moved state (Learn book key okuri cand) e = refl
lists_moved state (Purge book key word) e = refl
lists_moved state (Annotate book key cand) e = refl
lists_moved state (Share who books) e = cc
lists_moved state (Unlearn learned) e = refl

-- and where it is not
pub lists_after : (state : State) (call : Call) → is_share call ≡ false → (after state call).lists ≡ state.lists
lists_after state call e = by (moves state call)
  where
    by : (b : Bool) → (cond b (state_moved state call) state).lists ≡ state.lists
    by true = lists_moved state call e
    by false = refl
