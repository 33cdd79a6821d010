-- What groups of calls leave in the history of a dictionary whose caller is 0.
use Rattle.std.specs.Prelude.{◌≡◌, ℕ, ◌≤◌, true, if◌then◌else◌, Ok, Err, List, [], ◌∷◌, map}
use Rattle.skk_outside.specs.Faults.{Rose}
use Rattle.skk_calls.specs.declared.answer.Answer.{Answer}
use Rattle.skk_calls.specs.declared.answer.Answer.TheVariants.{Done, Refused}
use Rattle.skk_calls.specs.declared.answer.Refusal.TheVariants as refusals
use Rattle.skk_calls.specs.declared.call.Call.{Call}
use Rattle.skk_calls.specs.declared.chronicle.Noted.{Noted}
use Rattle.skk_calls.specs.declared.chronicle.Noted.TheVariants.{Entered}
use Rattle.skk_calls.specs.Chronicles.{history_of, is_chronicle}
use Rattle.skk_calls.specs.Dictionary.{after, answer, moves}
use Rattle.skk_calls.specs.Histories.{Opening, state_after}
use Rattle.skk_calls.specs.Openings.{IsLegalOver, are_of_one}
use Rattle.skk_calls.specs.Rows.{Row}
use Rattle.skk_calls.specs.States.{State}
use Rattle.skk_calls.specs.Tallies.{Tally, has_answer, lacks_disk, tally_of, tally_with}
use Rattle.skk_disk.specs.declared.disk.Disk.{Ghosts}
use Rattle.learn_index.specs.declared.plan.Plan.{Plan}
use Rattle.learn_index.specs.declared.plan.Plan.TheVariants.{Still}
use Rattle.learned_store.specs.declared.parts.Parts.{Parts}
use Rattle.learned_store.specs.Stands.{faults_of, time_of}
use Rattle.learned_store.specs.Stores.{OpenStore}
use Rattle.batch_store.specs.declared.group_fault.GroupFault.{GroupFault}
use Rattle.batch_store.specs.declared.group_fault.GroupFault.TheVariants.{Memory, Full, Disk}
use Rattle.batch_store.specs.Batches.{GroupAnswer}

-- the store that parts were made of
abbrev pub store_of : {D : Type 0} → Parts D → OpenStore D
store_of parts =
    record { journal = parts.journal; state = parts.index.state; files = parts.system; limit = parts.limit }

-- what a call is answered that is served at a state
abbrev pub served : List (List Row) → State → Call → Answer
served files state call = Done (answer files state call)

-- what a call is answered at a state where the disk failed its group: it is refused where it would change something
abbrev pub failed : List (List Row) → State → Call → Answer
failed files state call = if moves state call then Refused refusals.Disk else served files state call

-- the answers to calls, each served at the state after those before it
abbrev pub all_served : List (List Row) → State → List Call → List Answer
all_served files state [] = []
all_served files state (call ∷ calls) = served files state call ∷ all_served files (after state call) calls

-- the answers of a group in the history: where it was served, and where the disk failed it, each call has one; a call
-- alone for which there is no room is refused so; and of any other group nothing stands there
abbrev pub answers_of : {D : Type 0} → OpenStore D → List Call → GroupAnswer → List Answer
answers_of store calls (Ok replies) = all_served store.files store.state calls
answers_of store calls (Err Disk) = map (failed store.files store.state) calls
answers_of store (call ∷ []) (Err (Full end need limit)) = Refused (refusals.JournalFull end need limit) ∷ []
answers_of store calls answer = []

-- calls with their answers, as they are noted at a time and a count of faults
abbrev pub entered : ℕ → ℕ → List Call → List Answer → List Noted
entered time faults (call ∷ calls) (answer ∷ answers) =
    Entered 0 call answer time faults ∷ entered time faults calls answers
entered time faults calls answers = []

-- the same on the disk of parts, as it is
abbrev pub entered_at : {D : Type 0} → Ghosts D → Parts D → List Call → List Answer → List Noted
entered_at disk parts calls answers =
    entered (disk.time parts.journal.disk) (disk.faults parts.journal.disk) calls answers

-- what a call is answered that was planned so, where the disk failed its group
abbrev pub answer_planned : Plan → Answer
answer_planned (Still reply) = Done reply
answer_planned plan = Refused refusals.Disk

-- the answers that are entered of calls that were planned so, where their group was not served: none where memory was
-- out, and of a file that is full only that of a call alone
abbrev pub fault_answers : List Call → List Plan → GroupFault → List Answer
fault_answers calls plans Memory = []
fault_answers calls plans Disk = map answer_planned plans
fault_answers (call ∷ []) plans (Full end need limit) = Refused (refusals.JournalFull end need limit) ∷ []
fault_answers calls plans (Full end need limit) = []

-- a tally with answers more
abbrev pub tally_behind : Tally → List Answer → Tally
tally_behind tally [] = tally
tally_behind tally (answer ∷ answers) = tally_behind (tally_with tally answer) answers

-- along notes neither times nor counts of faults fall, from these on up to those
abbrev pub NeverFall : ℕ → ℕ → List Noted → ℕ → ℕ → Type 0
NeverFall time faults [] last_time last_faults = (time ≤ last_time) × (faults ≤ last_faults)
NeverFall time faults (note ∷ notes) last_time last_faults =
    (time ≤ time_of note) × (faults ≤ faults_of note)
    × NeverFall (time_of note) (faults_of note) notes last_time last_faults

-- the notes of an opening and of groups behind it, and the store over which they were made: each answer is legal, all
-- calls are those of the caller 0, the store has the state behind them, times and counts of faults do not fall up to
-- those of the disk, and where a call was refused for the disk its count rose since the opening; and the tally counts
-- the answers
pub record AreEntered {D : Type 0} (disk : Ghosts D) (notes : List Noted) (tally : Tally) (store : OpenStore D)
    : Type 0 where
  pub opening : Opening
  pub begun : is_chronicle notes ≡ true
  pub legal : IsLegalOver opening notes
  pub one : are_of_one notes ≡ true
  pub files : store.files ≡ opening.files
  pub limit : store.limit ≡ opening.limit
  pub state : store.state ≡ state_after opening.state (history_of notes)
  pub goes_on : NeverFall opening.time opening.faults notes (disk.time store.journal.disk)
      (disk.faults store.journal.disk)
  pub failed : has_answer lacks_disk (history_of notes) ≡ true
      → Rose opening.faults (disk.faults store.journal.disk)
  pub counted : tally ≡ record (tally_of opening.state (history_of notes)) { rows = 0 }
