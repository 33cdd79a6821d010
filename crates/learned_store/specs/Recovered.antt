-- What the records of a learned file leave, and what a file is opened as.
use Rattle.std.specs.Prelude.{◌≡◌, ◌⊎◌, ⊤, ℕ, List, [], ◌∷◌, ◌++◌}
use Rattle.skk_calls.specs.States.{State, empty_state}
use Rattle.skk_journal.specs.declared.fault.OpenFault.{OpenFault}
use Rattle.skk_journal.specs.declared.fault.OpenFault.TheVariants.{NotJournal, BadRecord}
use Rattle.skk_disk.specs.Image.{Image}
use Rattle.skk_disk.specs.declared.which.Which.{Which}
use Rattle.skk_journal.specs.declared.choice.LiveChoice.TheVariants.{LiveIn}
use Rattle.skk_journal.specs.declared.live.Live.{Live}
use Rattle.skk_journal.specs.Causes.{file_number}
use Rattle.skk_journal.specs.Choice.{choice}
use Rattle.skk_journal.specs.Contents.{Contents}
use Rattle.skk_journal.specs.Opening.{with_contents, not_journal, bad_record, IsOpened}
use Rattle.skk_journal.specs.Records.{place_behind, end_of}
use Rattle.learned_store.specs.declared.form.PayloadForm.{PayloadForm}
use Rattle.learned_store.specs.Payloads.{Says, SaysNothing, newest_version, state_told}

-- records of a file of a version with these payloads, one after another, lead from a state to this one: each says
-- something at its own state
abbrev pub Leads : ℕ → State → List (List ℕ) → State → Type 0
Leads version state [] after = after ≡ state
Leads version state (payload ∷ payloads) after =
    (form : PayloadForm) × Says version state payload form × Leads version (state_told state form) payloads after

-- what a file has leaves this state behind it, where there was nothing before
abbrev pub Leave : Contents → State → Type 0
Leave contents state = Leads contents.version empty_state contents.records state

-- the gate of the first record of a file whose payload is none of the forms stands at this place of it
pub record BreakAt (contents : Contents) (at : ℕ) : Type 0 where
  pub before : List (List ℕ)
  pub payload : List ℕ
  pub behind : List (List ℕ)
  pub state : State
  pub is : contents.records ≡ before ++ payload ∷ behind
  pub left : Leave (record contents { records = before }) state
  pub none : SaysNothing contents.version state payload
  pub place : at ≡ place_behind before

-- what both files of a disk are opened as: a state; no learned file, by the first byte of one of them; or the least
-- place in one of them that is refused
pub data Recovery : Type 0 where
  with_state : State → Recovery
  foreign : Which → ℕ → Recovery
  refused : Which → ℕ → Recovery

-- the records of a live file break at a place of it where the first of them stands whose payload is none of the forms
pub record BreaksIn (image : Image) (file : Which) (at : ℕ) : Type 0 where
  pub live : Live
  pub chosen : choice newest_version image ≡ LiveIn live
  pub of_live : file ≡ live.file
  pub contents : Contents
  pub opened : IsOpened newest_version image (with_contents contents)
  pub breaks : BreakAt contents at

-- an image is opened so: the records of its live file leave the state, or no file is live and there are none; one of
-- its files is no learned file; or the least place is that of a record of the live file whose payload is none of the
-- forms, be there a bad frame behind it or none, or that of a bad frame behind records that are all of the forms
abbrev pub IsRecovered : Image → Recovery → Type 0
IsRecovered image (with_state state) =
    (contents : Contents) × IsOpened newest_version image (with_contents contents) × Leave contents state
IsRecovered image (foreign file first) = IsOpened newest_version image (not_journal file first)
IsRecovered image (refused file at) =
    BreaksIn image file at
    ⊎ (((before : Contents) × (frame : ℕ) × IsOpened newest_version image (bad_record file frame before)
    × BreakAt before at)
    ⊎ ((before : Contents) × (state : State) × IsOpened newest_version image (bad_record file at before)
    × Leave before state))

-- an image is refused so: one of its files is no learned one, by its first byte; or at the least place of one, and no
-- records are told
abbrev pub IsRefused : Image → OpenFault → Type 0
IsRefused image (NotJournal number first) =
    (file : Which) × (number ≡ file_number file) × IsRecovered image (foreign file first)
IsRefused image (BadRecord number at version before) =
    (file : Which) × (number ≡ file_number file) × IsRecovered image (refused file at) × (before ≡ [])
IsRefused image fault = ⊤

-- what a file has leaves a state and ends so; where both files are told, it is what these are opened with
pub record IsOpenedWith (tells : Type 0) (image : Image) (state : State) (end : ℕ) : Type 0 where
  pub contents : Contents
  pub leave : Leave contents state
  pub end_is : end ≡ end_of contents.records
  pub told : tells → IsOpened newest_version image (with_contents contents)
