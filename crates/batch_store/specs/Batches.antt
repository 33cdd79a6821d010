-- What a group of calls makes of a dictionary whose changes stand on a disk, all of them or none.
use Rattle.std.specs.Prelude.{◌≡◌, ◌⊎◌, ⊤, ℕ, ◌+◌, ◌<◌, ◌≤◌, Bool, true, false, ◌||◌, if◌then◌else◌}
use Rattle.std.specs.Prelude.{Result, Ok, Err, Option, None, Some, List, [], ◌∷◌, ◌++◌, length, Contains}
use Rattle.skk_outside.specs.Faults.{Rose}
use Rattle.skk_calls.specs.declared.answer.Reply.{Reply}
use Rattle.skk_calls.specs.declared.call.Call.{Call}
use Rattle.skk_calls.specs.Dictionary.{after, moves}
use Rattle.skk_calls.specs.Histories.{after_calls, need, tight}
use Rattle.skk_calls.specs.States.{State}
use Rattle.skk_disk.specs.declared.disk.Disk.{Ghosts}
use Rattle.skk_disk.specs.Runs.{Advances}
use Rattle.skk_journal.specs.Images.{Each}
use Rattle.skk_journal.specs.Journal.{is_in_doubt}
use Rattle.skk_journal.specs.Records.{IsGroup}
use Rattle.learn_index.specs.Groups.{replies_to}
use Rattle.learned_store.specs.Stores.{AddsAll, OpenStore, Keeps, RecoversOneOf, with_doubt}
use Rattle.batch_store.specs.declared.group_fault.GroupFault.{GroupFault}
use Rattle.batch_store.specs.declared.group_fault.GroupFault.TheVariants.{Memory, Full, Disk}

-- What calls need together

-- some of these calls changes something at the state after those before it
abbrev pub some_moves : State → List Call → Bool
some_moves state [] = false
some_moves state (call ∷ calls) = moves state call || some_moves (after state call) calls

-- the bytes that a call needs in the learned file, none where it changes nothing
abbrev pub moving_need : State → Call → ℕ
moving_need state call = if moves state call then need state call else 0

-- the bytes that calls need there, each at the state after those before it
abbrev pub group_need : State → List Call → ℕ
group_need state [] = 0
group_need state (call ∷ calls) = moving_need state call + group_need (after state call) calls

-- What is written of them

-- bytes are what is added together for these calls: records that leave the state after them, in a file of any version,
-- and that are as long as the calls need
pub record TellsGroup (state : State) (calls : List Call) (bytes : List ℕ) : Type 0 where
  pub moved : some_moves state calls ≡ true
  pub added : List (List ℕ)
  pub group : IsGroup added bytes
  pub adds : (version : ℕ) → 1 ≤ version → AddsAll version added state (after_calls state calls)
  pub needs : group_need state calls ≡ length bytes

-- so they are, and there are none exactly where none of the calls changes anything
abbrev pub IsPieceOf : State → List Call → List ℕ → Type 0
IsPieceOf state calls [] = some_moves state calls ≡ false
IsPieceOf state calls (byte ∷ bytes) = TellsGroup state calls (byte ∷ bytes)

-- What a group does to a store

-- what a group is answered: the reply to each call, or why none was served
abbrev pub GroupAnswer : Type 0
GroupAnswer = Result (List Reply) GroupFault

-- the state after a group with this answer, where a group that is not done changes nothing
abbrev pub after_group : State → List Call → GroupAnswer → State
after_group state calls (Ok replies) = after_calls state calls
after_group state calls answer = state

-- a group with this answer changed something
abbrev pub tells_group : State → List Call → GroupAnswer → Bool
tells_group state calls (Ok replies) = some_moves state calls
tells_group state calls answer = false

-- an answer has the replies of the dictionary of one thread to the calls in order, or a cause why there are none: out
-- of memory, a disk that failed a change, or a learned file without room for what the calls need, also where it held
-- nothing but the state, with its end then, that need and its limit
abbrev pub IsLegalGroup : {D : Type 0} → OpenStore D → List Call → GroupAnswer → Type 0
IsLegalGroup store calls (Ok replies) = replies ≡ replies_to store.files store.state calls
IsLegalGroup store calls (Err Memory) = ⊤
IsLegalGroup store calls (Err (Full told_end told_need told_limit)) =
    (some_moves store.state calls ≡ true) × (told_end ≡ tight store.state)
    × (told_need ≡ group_need store.state calls) × (told_limit ≡ store.limit)
    × (store.limit < tight store.state + group_need store.state calls)
IsLegalGroup store calls (Err Disk) = some_moves store.state calls ≡ true

-- the states that a stop within a group may leave: the one before it and the one in doubt, and the one after all of it
-- where it changed something or a disk failed
abbrev pub states_within_group : State → Option State → List Call → GroupAnswer → List State
states_within_group state doubt calls (Ok replies) =
    if some_moves state calls then with_doubt state doubt ++ after_calls state calls ∷ [] else with_doubt state doubt
states_within_group state doubt calls (Err Disk) = with_doubt state doubt ++ after_calls state calls ∷ []
states_within_group state doubt calls answer = with_doubt state doubt

-- what is in doubt after a group: nothing after a change, and where the file was full; where a disk failed, what was
-- before, nothing, the state itself, which the other file may have, or the state after the whole group; else what was
-- before
abbrev pub GroupDoubt : State → Option State → List Call → GroupAnswer → Option State → Type 0
GroupDoubt state doubt calls (Ok replies) now = now ≡ (if some_moves state calls then None else doubt)
GroupDoubt state doubt calls (Err Memory) now = now ≡ doubt
GroupDoubt state doubt calls (Err (Full told_end told_need told_limit)) now = now ≡ None
GroupDoubt state doubt calls (Err Disk) now =
    Contains (doubt ∷ None ∷ Some state ∷ Some (after_calls state calls) ∷ []) now

-- a group of calls with this answer makes this store of that one
pub record Commits {D : Type 0} (disk : Ghosts D) (old new : OpenStore D) (calls : List Call) (answer : GroupAnswer)
    : Type 0 where
  pub legal : IsLegalGroup old calls answer
  pub fits : tells_group old.state calls answer ≡ true → tight old.state + group_need old.state calls ≤ old.limit
  pub room : answer ≡ Err Disk
      → (is_in_doubt old.journal.doubt ≡ true) ⊎ (tight old.state + group_need old.state calls ≤ old.limit)
  pub failed : answer ≡ Err Disk → Rose (disk.faults old.journal.disk) (disk.faults new.journal.disk)
  pub state : new.state ≡ after_group old.state calls answer
  pub files : new.files ≡ old.files
  pub limit : new.limit ≡ old.limit
  pub still : some_moves old.state calls ≡ false → new.journal ≡ old.journal
  pub memory : answer ≡ Err Memory → new.journal ≡ old.journal
  pub images : (doubt : Option State) → Keeps disk old.journal old.state doubt
      → Each (disk.left_since new.journal.disk (disk.time old.journal.disk))
      (RecoversOneOf (states_within_group old.state doubt calls answer))
  pub after : (doubt : Option State) → Keeps disk old.journal old.state doubt
      → (now : Option State) × GroupDoubt old.state doubt calls answer now
      × Keeps disk new.journal new.state now
  pub advances : Advances disk old.journal.disk new.journal.disk
