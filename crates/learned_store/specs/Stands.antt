-- What the notes of a dictionary's history and the disk under it stand for, at each moment.
use Rattle.std.specs.Prelude.{◌≡◌, ◌⊎◌, ⊤, ℕ, ◌+◌, ◌<◌, ◌≤◌, true, false, Option, None, Some, List, [], ◌∷◌, ◌++◌, All}
use Rattle.std.specs.Prelude.{Contains}
use Rattle.skk_outside.specs.Faults.{Rose}
use Rattle.skk_calls.specs.declared.answer.Answer.{Answer}
use Rattle.skk_calls.specs.declared.answer.Answer.TheVariants.{Refused}
use Rattle.skk_calls.specs.declared.answer.Refusal.TheVariants.{Disk}
use Rattle.skk_calls.specs.declared.call.Call.{Call}
use Rattle.skk_calls.specs.declared.chronicle.Noted.{Noted}
use Rattle.skk_calls.specs.declared.chronicle.Noted.TheVariants.{Opened, Entered}
use Rattle.skk_calls.specs.Chronicles.{history_of, is_chronicle}
use Rattle.skk_calls.specs.Dictionary.{may_answer}
use Rattle.skk_calls.specs.Histories.{Opening, need, tells_change, in_doubt, state_after, states_left, tight}
use Rattle.skk_calls.specs.Openings.{IsLegalOver}
use Rattle.skk_calls.specs.States.{State}
use Rattle.skk_calls.specs.Tallies.{Tally, tally_of}
use Rattle.skk_disk.specs.declared.disk.Disk.{Ghosts}
use Rattle.skk_disk.specs.Image.{Image}
use Rattle.skk_disk.specs.Moments.{Passes}
use Rattle.skk_disk.specs.Runs.{Advances}
use Rattle.skk_journal.specs.Images.{Each}
use Rattle.skk_journal.specs.Journal.{OpenJournal, is_in_doubt}
use Rattle.learned_store.specs.Limits.{AllHadRoom}
use Rattle.learned_store.specs.Stores.{OpenStore, RecoversOneOf, Keeps, with_doubt}

-- the disk's time when something was noted
abbrev pub time_of : Noted → ℕ
time_of (Opened files state end limit time faults) = time
time_of (Entered number call answer time faults) = time

-- the disk's count of faults when something was noted
abbrev pub faults_of : Noted → ℕ
faults_of (Opened files state end limit time faults) = faults
faults_of (Entered number call answer time faults) = faults

-- the states that a stop behind these notes may leave, where this one was opened
abbrev pub left_behind : State → List Noted → List State
left_behind opened notes = states_left opened (history_of notes)

-- an image is opened as a state that a stop may leave behind a part of the notes, which has each of them that was made
-- by a time
pub record RecoversBy (opened : State) (notes : List Noted) (time : ℕ) (image : Image) : Type 0 where
  pub front : List Noted
  pub back : List Noted
  pub is : notes ≡ front ++ back
  pub later : All (λ note. time < time_of note) back
  pub recovers : RecoversOneOf (left_behind opened front) image

-- from a time up to now, what a stop since a moment might have left is opened so
abbrev pub StandsOver : State → List Noted → ℕ → ℕ → (ℕ → Image → Type 0) → Type 0
StandsOver opened notes start now since =
    (time : ℕ) (image : Image) → start ≤ time → time ≤ now → since time image → RecoversBy opened notes time image

-- a disk that failed a change had a count of faults that rose
abbrev pub HasCause : ℕ → Noted → Type 0
HasCause before (Entered number call (Refused Disk) time faults) = Rose before faults
HasCause before note = ⊤

-- from a time and a count of faults on, neither falls along the notes, each refusal for the disk has its cause, and
-- they end at these
abbrev pub GoOn : ℕ → ℕ → List Noted → ℕ → ℕ → Type 0
GoOn time faults [] last_time last_faults = (last_time ≡ time) × (last_faults ≡ faults)
GoOn time faults (note ∷ notes) last_time last_faults =
    (time ≤ time_of note) × (faults ≤ faults_of note) × HasCause faults note
    × GoOn (time_of note) (faults_of note) notes last_time last_faults

-- a state in doubt, where there is one, is one of these
abbrev pub IsOneOf : Option State → List State → Type 0
IsOneOf None states = ⊤
IsOneOf (Some state) states = Contains states state

-- each of these images is opened as a state, or as one in doubt beside it, which is one of these
abbrev pub RecoverAmong : State → List State → (Image → Type 0) → Type 0
RecoverAmong state states images =
    (doubt : Option State) × IsOneOf doubt states × Each images (RecoversOneOf (with_doubt state doubt))

-- a journal keeps this state, and what is in doubt is one of these
abbrev pub KeepsAmong : {D : Type 0} → Ghosts D → OpenJournal D → State → List State → Type 0
KeepsAmong disk journal state states =
    (doubt : Option State) × IsOneOf doubt states × Keeps disk journal state doubt

-- the notes of an opening and of what was entered behind it, and the store that they were made over: each answer is
-- legal and had room, the store has the state behind them, and is in doubt only where a change is, each image of each
-- moment since the opening is opened as a state that a stop may leave, times and counts of faults go on to those of the
-- disk, and what a stop before the opening might have left is what it might have left then
pub record Stands {D : Type 0} (disk : Ghosts D) (opening : Opening)
    (past : ℕ → Image → Type 0) (notes : List Noted) (store : OpenStore D) : Type 0 where
  pub begun : is_chronicle notes ≡ true
  pub legal : IsLegalOver opening notes
  pub fits : AllHadRoom opening (history_of notes)
  pub files : store.files ≡ opening.files
  pub limit : store.limit ≡ opening.limit
  pub state : store.state ≡ state_after opening.state (history_of notes)
  pub calm : in_doubt [] (history_of notes) ≡ [] → is_in_doubt store.journal.doubt ≡ false
  pub keeps : KeepsAmong disk store.journal store.state (left_behind opening.state notes)
  pub moments : StandsOver opening.state notes opening.time (disk.time store.journal.disk)
      (disk.left_since store.journal.disk)
  pub goes_on : GoOn opening.time opening.faults notes (disk.time store.journal.disk) (disk.faults store.journal.disk)
  pub passes : Passes opening.time (disk.time store.journal.disk) past (disk.left_since store.journal.disk)

-- a store and the notes of what it was opened with and answered
pub record NotedStore (D : Type 0) : Type 0 where
  pub store : OpenStore D
  pub notes : List Noted

-- a call of a caller with this answer makes this noted store of that one: each clause of `Noting::serve`, by its name
pub record NotesCall {D : Type 0} (disk : Ghosts D) (old new : NotedStore D)
    (number : ℕ) (call : Call) (answer : Answer) : Type 0 where
  pub notes : new.notes
      ≡ old.notes ++ Entered number call answer (disk.time new.store.journal.disk) (disk.faults new.store.journal.disk)
      ∷ []
  pub may : may_answer call answer ≡ true
  pub fits : tells_change answer ≡ true → tight old.store.state + need old.store.state call ≤ old.store.limit
  pub room : answer ≡ Refused Disk
      → (is_in_doubt old.store.journal.doubt ≡ true)
      ⊎ (tight old.store.state + need old.store.state call ≤ old.store.limit)
  pub advances : Advances disk old.store.journal.disk new.store.journal.disk

-- the note of an opening
abbrev pub opening_note : Opening → Noted
opening_note opening =
    Opened opening.files opening.state opening.end opening.limit opening.time opening.faults

-- a tally counts the answers of a history
abbrev pub Counts : Opening → List Noted → Tally → Type 0
Counts opening notes tally =
    tally ≡ record (tally_of opening.state (history_of notes)) { rows = 0 }
