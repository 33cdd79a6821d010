-- What a call of a shared dictionary tells its caller, and what is left of the callers that ended.
use Rattle.std.specs.Prelude.{◌≡◌, List, [], ◌∷◌, ◌++◌}
use mathlib.Core.List.{IsPrefix}
use Rattle.skk_calls.specs.declared.answer.Answer.{Answer}
use Rattle.skk_calls.specs.declared.call.Call.{Call}
use Rattle.skk_calls.specs.declared.entry.Entry.{Entry}
use Rattle.skk_calls.specs.Histories.{Opening, IsLegal, dialog}
use Rattle.desk_history.specs.Seats.{CallerState}
use Rattle.learned_store.specs.Limits.{AllHadRoom}

-- what is seen after a call ends with its entry, behind an earlier history that begins with all that the caller had
-- seen, and in which the entries of its number are just its own calls; and each answer that is seen is legal and had
-- room
pub record Extends (opening : Opening) (before : CallerState) (call : Call) (answer : Answer) (after : CallerState)
    : Type 0 where
  pub earlier : List Entry
  pub begins : IsPrefix before.seen earlier
  pub own : dialog earlier before.number ≡ before.mine
  pub ends : after.seen ≡ earlier ++ record { number = before.number; call = call; answer = answer } ∷ []
  pub mine : after.mine ≡ before.mine ++ (call, answer) ∷ []
  pub number : after.number ≡ before.number
  pub legal : IsLegal opening after.seen
  pub fits : AllHadRoom opening after.seen

-- what a caller has seen begins a history, and the entries of its number there are just its own calls
abbrev pub Stood : List Entry → CallerState → Type 0
Stood history caller = IsPrefix caller.seen history × (dialog history caller.number ≡ caller.mine)
