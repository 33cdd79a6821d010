-- The state after a legal history, by its changes.
use Rattle.std.proofs.Common.{◌≡◌, Bool, true, false, cond, List, [], ◌∷◌, refl, ap, arith}
use Rattle.skk_calls.specs.declared.answer.Answer.{Answer}
use Rattle.skk_calls.specs.declared.answer.Answer.TheVariants.{Done, Refused}
use Rattle.skk_calls.specs.declared.call.Call.{Call}
use Rattle.skk_calls.specs.declared.call.Call.TheVariants.{Lookup, Complete, Learn, Purge, Annotate, Share, Unlearn}
use Rattle.skk_calls.specs.declared.entry.Entry.{Entry}
use Rattle.skk_calls.specs.Dictionary.{answer, is_change, moves, after}
use Rattle.skk_calls.specs.Histories.{Opening, LacksRoom, IsLegalAnswer, IsLegal, tells_change, after_answer}
use Rattle.skk_calls.specs.Histories.{after_entry, state_after, changes, after_calls}
use Rattle.skk_calls.specs.Rows.{Row}
use Rattle.skk_calls.specs.States.{State}
use Rattle.dict_laws.proofs.TakenBack.{after_unmoved}

-- no system file has a say in whether a call changes the state
files_have_no_say : (files : List (List Row)) (state : State) (call : Call)
    → is_change (answer files state call) ≡ moves state call
files_have_no_say files state (Lookup who key okuri) = refl
files_have_no_say files state (Complete who prefix) = refl
files_have_no_say files state (Learn book key okuri cand) = refl
files_have_no_say files state (Purge book key word) = refl
files_have_no_say files state (Annotate book key cand) = refl
files_have_no_say files state (Share who books) = refl
files_have_no_say files state (Unlearn learned) = refl

-- a call with a legal answer makes another state exactly where the answer tells of a change
state_as_told : (opening : Opening) (state : State) (call : Call) (told : Answer)
    → IsLegalAnswer LacksRoom opening state call told
    → after_answer state call told ≡ cond (tells_change told) (after state call) state
state_as_told opening state call (Refused refusal) legal = refl
state_as_told opening state call (Done reply) legal = by (is_change reply) refl
  where
    by : (b : Bool) → is_change reply ≡ b → after state call ≡ cond b (after state call) state
    by true e = refl
    by false e =
        let unmoved : moves state call ≡ false = cc (files_have_no_say opening.files state call, ap is_change legal) in
        after_unmoved state call unmoved

-- an opening with another state
abbrev moved_on : Opening → State → Opening
moved_on opening state = record opening { state = state }

-- of a legal history what stands behind the first entry is legal from there on
legal_rest : (opening : Opening) (entry : Entry) (history : List Entry) → IsLegal opening (entry ∷ history)
    → IsLegal (moved_on opening (after_entry opening.state entry)) history
legal_rest opening entry history legal prefix next rest e = legal (entry ∷ prefix) next rest (ap (λ l. entry ∷ l) e)

-- the state after a legal history is the one after its changes
pub by_changes : (opening : Opening) (history : List Entry) → IsLegal opening history
    → state_after opening.state history ≡ after_calls opening.state (changes history)
by_changes opening [] legal = refl
by_changes opening (entry ∷ history) legal =
    grind (
      arith,
      state_as_told opening opening.state entry.call entry.answer (legal [] entry history refl),
      by_changes (moved_on opening (after_entry opening.state entry)) history (legal_rest opening entry history legal),
    )
