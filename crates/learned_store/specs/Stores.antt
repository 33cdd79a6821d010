-- An open store, what each image of its disk is opened as, and what a call leaves in doubt.
use Rattle.std.specs.Prelude.{◌≡◌, ℕ, if◌then◌else◌, Option, None, Some, List, [], ◌∷◌, ◌++◌, All}
use Rattle.std.specs.Prelude.{Contains}
use Rattle.skk_calls.specs.declared.answer.Answer.{Answer}
use Rattle.skk_calls.specs.declared.answer.Answer.TheVariants.{Done, Refused}
use Rattle.skk_calls.specs.declared.answer.Refusal.TheVariants.{Memory, Disk, JournalFull}
use Rattle.skk_calls.specs.declared.call.Call.{Call}
use Rattle.skk_calls.specs.Dictionary.{after, is_change}
use Rattle.skk_calls.specs.Histories.{Opening}
use Rattle.skk_calls.specs.Rows.{Row}
use Rattle.skk_calls.specs.States.{State}
use Rattle.skk_disk.specs.declared.disk.Disk.{Ghosts}
use Rattle.skk_disk.specs.Image.{Image}
use Rattle.skk_journal.specs.Contents.{Contents, with_added}
use Rattle.skk_journal.specs.Journal.{OpenJournal, Rests, Doubts}
use Rattle.skk_journal.specs.Records.{IsSized, framed}
use Rattle.learned_store.specs.Payloads.{newest_version}
use Rattle.learned_store.specs.Recovered.{Leave, with_state, IsRecovered}

-- an open journal and the state that its records leave, the rows of the system files, and the limit of the learned file
pub record OpenStore (D : Type 0) : Type 0 where
  pub journal : OpenJournal D
  pub state : State
  pub files : List (List Row)
  pub limit : ℕ

-- what a history of a store stands over that begins now
abbrev pub opening_now : {D : Type 0} → Ghosts D → OpenStore D → Opening
opening_now disk store = record {
  files = store.files;
  state = store.state;
  end = store.journal.end;
  limit = store.limit;
  time = disk.time store.journal.disk;
  faults = disk.faults store.journal.disk;
}

-- an image is opened as a state
abbrev pub Recovers : State → Image → Type 0
Recovers state image = IsRecovered image (with_state state)

-- an image is opened as one of these states
abbrev pub RecoversOneOf : List State → Image → Type 0
RecoversOneOf states image = (state : State) × Contains states state × Recovers state image

-- what the live file of a journal has leaves a state. Where another state is in doubt, other contents leave that, which
-- may count: a record more stands behind some gate, or the other file is filled and its own gate may be open
abbrev pub Keeps : {D : Type 0} → Ghosts D → OpenJournal D → State → Option State → Type 0
Keeps disk journal state None =
    (journal.newest ≡ newest_version) × (contents : Contents) × Leave contents state
    × Rests disk journal contents
Keeps disk journal state (Some doubted) =
    (journal.newest ≡ newest_version) × (contents : Contents) × (others : Contents) × Leave contents state
    × Leave others doubted × Doubts disk journal contents others

-- a journal keeps a state, and what is in doubt is one of these
abbrev pub KeepsOneOf : {D : Type 0} → Ghosts D → OpenJournal D → State → List (Option State) → Type 0
KeepsOneOf disk journal state doubts =
    (doubt : Option State) × Contains doubts doubt × Keeps disk journal state doubt

-- in a file of a version, behind records that leave a state the added ones leave that one
abbrev pub AddsAll : ℕ → List (List ℕ) → State → State → Type 0
AddsAll version added state after =
    (contents : Contents) → contents.version ≡ version → Leave contents state
    → Leave (with_added contents added) after

-- in a file of a version, behind records that leave a state one of this payload leaves that one
abbrev pub Adds : ℕ → List ℕ → State → State → Type 0
Adds version payload state after = AddsAll version (payload ∷ []) state after

-- bytes are the records of a file of the newest version that leave a state
abbrev pub IsCompaction : State → List ℕ → Type 0
IsCompaction state bytes =
    (records : List (List ℕ)) × All IsSized records × (bytes ≡ framed records)
    × Leave (record { version = newest_version; records = records }) state

-- a state and the one in doubt beside it, where there is one
abbrev pub with_doubt : State → Option State → List State
with_doubt state None = state ∷ []
with_doubt state (Some doubted) = state ∷ doubted ∷ []

-- the states that a stop within a call may leave: the one before it and the one in doubt, and the one after it where
-- the call changed the state or a disk failed
abbrev pub states_within : State → Option State → Call → Answer → List State
states_within state doubt call (Done reply) =
    if is_change reply then with_doubt state doubt ++ after state call ∷ [] else with_doubt state doubt
states_within state doubt call (Refused Disk) = with_doubt state doubt ++ after state call ∷ []
states_within state doubt call (Refused refusal) = with_doubt state doubt

-- what is in doubt after a call: nothing after a change, and where the file was full; where a disk failed, what was
-- before, nothing, the state itself, which the other file may have, or the state after the call; else what was before
abbrev pub DoubtAfter : State → Option State → Call → Answer → Option State → Type 0
DoubtAfter state doubt call (Done reply) now = now ≡ (if is_change reply then None else doubt)
DoubtAfter state doubt call (Refused Memory) now = now ≡ doubt
DoubtAfter state doubt call (Refused Disk) now =
    Contains (doubt ∷ None ∷ Some state ∷ Some (after state call) ∷ []) now
DoubtAfter state doubt call (Refused (JournalFull end need limit)) now = now ≡ None
