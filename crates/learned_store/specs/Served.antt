-- What a call does to a store.
use Rattle.std.specs.Prelude.{◌≡◌, ◌⊎◌, ℕ, ◌+◌, ◌≤◌, Bool, true, false, if◌then◌else◌, Option}
use Rattle.skk_outside.specs.Faults.{Rose}
use Rattle.skk_disk.specs.declared.disk.Disk.{Ghosts}
use Rattle.skk_disk.specs.Runs.{Advances}
use Rattle.skk_calls.specs.declared.answer.Answer.{Answer}
use Rattle.skk_calls.specs.declared.answer.Answer.TheVariants.{Refused}
use Rattle.skk_calls.specs.declared.answer.Refusal.TheVariants.{Memory, Disk}
use Rattle.skk_calls.specs.declared.call.Call.{Call}
use Rattle.skk_calls.specs.Dictionary.{may_answer, moves}
use Rattle.skk_calls.specs.Histories.{after_answer, need, tells_change, tight, IsLegalAnswer, LacksRoom}
use Rattle.skk_calls.specs.States.{State}
use Rattle.skk_journal.specs.Images.{Each}
use Rattle.skk_journal.specs.Journal.{is_in_doubt}
use Rattle.learned_store.specs.Payloads.{version_needed}
use Rattle.learned_store.specs.Rooms.{goes_behind}
use Rattle.learned_store.specs.Stores.{OpenStore, opening_now, Keeps, RecoversOneOf, states_within, DoubtAfter}

-- the record of a call goes behind those of the live file of a store
abbrev pub is_added_behind : {D : Type 0} → OpenStore D → Call → Bool
is_added_behind store call =
    goes_behind store.limit store.journal.live.version store.journal.end
    (version_needed store.state call) (need store.state call)

-- where the live file ends behind a change: behind what it had, where the record goes there, or else behind what the
-- state holds
abbrev pub end_added : {D : Type 0} → OpenStore D → Call → ℕ
end_added store call =
    (if is_added_behind store call then store.journal.end else tight store.state) + need store.state call

-- the version of the live file behind a change: the one that it had, where the record goes behind what it had, or else
-- the newest one that the journal writes
abbrev pub version_added : {D : Type 0} → OpenStore D → Call → ℕ
version_added store call =
    if is_added_behind store call then store.journal.live.version else store.journal.newest

-- a call with this answer makes this store of that one: each clause of `Store::serve`, by its name
pub record Serves {D : Type 0} (disk : Ghosts D) (old new : OpenStore D) (call : Call) (answer : Answer) : Type 0 where
  pub legal : IsLegalAnswer LacksRoom (opening_now disk old) old.state call answer
  pub may : may_answer call answer ≡ true
  pub fits : tells_change answer ≡ true → tight old.state + need old.state call ≤ old.limit
  pub room : answer ≡ Refused Disk
      → (is_in_doubt old.journal.doubt ≡ true) ⊎ (tight old.state + need old.state call ≤ old.limit)
  pub failed : answer ≡ Refused Disk → Rose (disk.faults old.journal.disk) (disk.faults new.journal.disk)
  pub state : new.state ≡ after_answer old.state call answer
  pub end : tells_change answer ≡ true → new.journal.end ≡ end_added old call
  pub version : tells_change answer ≡ true → new.journal.live.version ≡ version_added old call
  pub files : new.files ≡ old.files
  pub limit : new.limit ≡ old.limit
  pub still : moves old.state call ≡ false → new.journal ≡ old.journal
  pub memory : answer ≡ Refused Memory → new.journal ≡ old.journal
  pub images : (doubt : Option State) → Keeps disk old.journal old.state doubt
      → Each (disk.left_since new.journal.disk (disk.time old.journal.disk))
      (RecoversOneOf (states_within old.state doubt call answer))
  pub after : (doubt : Option State) → Keeps disk old.journal old.state doubt
      → (now : Option State) × DoubtAfter old.state doubt call answer now
      × Keeps disk new.journal new.state now
  pub advances : Advances disk old.journal.disk new.journal.disk
