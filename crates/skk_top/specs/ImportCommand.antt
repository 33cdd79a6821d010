-- What a run of `import` leaves.
use Rattle.std.specs.Prelude.{◌≡◌, ◌⊎◌, ◌<◌, ◌≤◌, ℕ, true, Result, Ok, Err, List, [], ◌∷◌, ◌++◌, codes}
use Rattle.std.specs.Fmt.{decimal}
use Rattle.std.specs.Io.KnownBytes.{Keeps}
use Rattle.skk_outside.specs.Faults.{Rose}
use Rattle.skk_outside.specs.Moved.{Told, MovedShelf, MovedSink}
use Rattle.skk_text.specs.Counts.{last_count}
use Rattle.skk_text.specs.Lines.{line_feed}
use Rattle.skk_calls.specs.declared.call.Call.{Call}
use Rattle.skk_calls.specs.declared.chronicle.Noted.{Noted}
use Rattle.skk_calls.specs.Chronicles.{history_of}
use Rattle.skk_calls.specs.Histories.{Opening}
use Rattle.skk_calls.specs.Openings.{IsLegalOver, are_of_one}
use Rattle.skk_calls.specs.Rows.{Row}
use Rattle.skk_calls.specs.States.{State, count_of}
use Rattle.skk_calls.specs.Tallies.{tally_of}
use Rattle.skk_disk.specs.Image.{Image}
use Rattle.skk_journal.specs.Images.{Each}
use Rattle.learned_store.specs.Stands.{opening_note}
use Rattle.learned_store.specs.Stores.{Recovers}
use Rattle.batch_store.specs.declared.group_fault.GroupFault.TheVariants as groups
use Rattle.batch_store.specs.declared.import_fault.ImportFault.{ImportFault}
use Rattle.batch_store.specs.declared.import_fault.ImportFault.TheVariants as imports
use Rattle.batch_store.specs.Imports.{HasStamps, stamps_taken}
use Rattle.batch_store.specs.Learnings.{import_calls, import_groups}
use Rattle.batch_store.specs.Pieces.{AreCommittedIn, AreOfPieces, EndSo, StandsByPieces, calls_in, notes_of}
use Rattle.caller_work.specs.Disks.{DiskNow}
use Rattle.command_line.specs.Command.{limit_of}
use Rattle.command_line.specs.declared.command.ImportOptions.{ImportOptions}
use Rattle.run_endings.specs.Finishes.{EndsUnbegun}
use Rattle.run_endings.specs.Page.{LeavesPrinted}
use Rattle.run_endings.specs.Status.{Ended}
use Rattle.run_endings.specs.declared.fault.RunFault.{RunFault}
use Rattle.run_endings.specs.declared.fault.RunFault.TheVariants.{Outside, Memory, JournalFull, StampsEnd}
use Rattle.run_endings.specs.declared.finish.Run.{Run}
use Rattle.skk_top.specs.Dictionaries.{AreRowsOf, RefusesDictionaries}
use Rattle.skk_top.specs.Disks.{MovedDisk, RefusesLearned, IsOpening, StandsSince}

-- What is told

-- the line that tells how many candidates were learnt
abbrev pub imported_line : ℕ → List ℕ
imported_line count = codes "imported " ++ decimal count ++ line_feed ∷ []

-- what it is for the run that an import ended before its end
abbrev pub fault_of_import : ImportFault → RunFault
fault_of_import imports.StampsEnd = StampsEnd
fault_of_import (imports.Refused groups.Memory) = Memory
fault_of_import (imports.Refused (groups.Full end need limit)) = JournalFull
fault_of_import (imports.Refused groups.Disk) = Outside

-- how a run ends that has printed, or was to print, how many candidates were learnt, and would else end so
abbrev pub ended_behind : Ended → Ended → Ended
ended_behind (Ok printed) ended = ended
ended_behind (Err fault) ended = Err fault

-- the line of so many learnings was printed, and the run ends as it would else
abbrev pub TellsCount : ℕ → Ended → Ended → MovedSink → Type 0
TellsCount count left ended out =
    (printed : Ended) × LeavesPrinted (imported_line count) printed out × (ended ≡ ended_behind printed left)

-- what telling of an import with this result and of so many learnings leaves in a sink, by how the run ends: the line
-- is printed where all candidates were learnt, or the learned file was full, and else nothing is
abbrev pub TellsImport : Result (Unit {0}) ImportFault → ℕ → Ended → MovedSink → Type 0
TellsImport (Ok all) count ended out = TellsCount count (Ok tt) ended out
TellsImport (Err (imports.Refused (groups.Full end need limit))) count ended out =
    TellsCount count (Err JournalFull) ended out
TellsImport (Err fault) count ended out = (ended ≡ Err (fault_of_import fault)) × Keeps out.written out.written'

-- What is learnt

-- the learnings of an import with this result, as a chronicle has them: the book has not enough stamps, and none was
-- made; or it has, and all were made, and served, or they were made until one was refused, the last for want of room
abbrev pub LearnsSo : ℕ → List Row → Opening → List Noted → Result (Unit {0}) ImportFault → Type 0
LearnsSo book rows opening chronicle (Ok all) =
    HasStamps (count_of opening.state book) book rows
    × (calls_in chronicle ≡ import_calls book rows) × EndSo (Ok all) (history_of chronicle)
LearnsSo book rows opening chronicle (Err imports.StampsEnd) =
    (last_count < stamps_taken (count_of opening.state book) book rows) × (history_of chronicle ≡ [])
LearnsSo book rows opening chronicle (Err (imports.Refused fault)) =
    ((fault ≡ groups.Memory) ⊎ HasStamps (count_of opening.state book) book rows)
    × ((left : List Call) × (import_calls book rows ≡ calls_in chronicle ++ left))
    × EndSo (Err fault) (history_of chronicle)

-- the candidates of rows were learnt into a book behind an opening: the history is legal and that of one caller, its
-- calls are the first learnings of the import, where the disk is blamed its count of faults rose, and how many were
-- learnt was told
pub record LearnsRows {D : Type 0} (book : ℕ) (rows : List Row) (opening : Opening) (run : Run D) (out : MovedSink)
    (disk : DiskNow) : Type 0 where
  pub done : Result (Unit {0}) ImportFault
  pub legal : IsLegalOver opening run.chronicle
  pub one : are_of_one run.chronicle ≡ true
  pub learns : LearnsSo book rows opening run.chronicle done
  pub failed : done ≡ Err (imports.Refused groups.Disk) → Rose opening.faults disk.faults
  pub tells : TellsImport done (tally_of opening.state (history_of run.chronicle)).learned run.ended out

-- the learned file was opened without dictionaries, and there was no memory to begin, or the candidates were learnt
pub record ImportsOpened {D : Type 0} (options : ImportOptions) (rows : List Row) (run : Run D) (out : MovedSink)
    (disk : MovedDisk) : Type 0 where
  pub opening : Opening
  pub opened : IsOpening disk [] (limit_of options.limit) opening
  pub learnt : EndsUnbegun (λ fault. fault ≡ Memory) run out ⊎ LearnsRows options.book rows opening run out disk.after

-- the dictionary was read, and the learned file is refused, and nothing was printed, or it was opened
pub record ImportsRead {D : Type 0} (options : ImportOptions) (file : Told) (run : Run D) (out : MovedSink)
    (disk : MovedDisk) : Type 0 where
  pub rows : List Row
  pub read : AreRowsOf (rows ∷ []) (file ∷ [])
  pub imported : EndsUnbegun (RefusesLearned disk) run out ⊎ ImportsOpened options rows run out disk

-- what a run of `import` leaves: the dictionary is refused, and nothing was printed, or it was read
abbrev pub LeavesImported : {D : Type 0} → ImportOptions → Run D → MovedShelf → MovedSink → MovedDisk → Type 0
LeavesImported options run shelf out disk =
    EndsUnbegun (RefusesDictionaries (shelf.file options.file ∷ []) shelf.faults shelf.faults') run out
    ⊎ ImportsRead options (shelf.file options.file) run out disk

-- What a stop leaves

-- since a start before the opening, what a stop might have left is opened as a state behind the first ones of lists of
-- notes, which have each note that was made by then, where until the opening it was opened as the state of the opening
abbrev pub StandsBehind : State → List (List Noted) → DiskNow → DiskNow → Type 0
StandsBehind opened lists old new =
    (start : ℕ) → start ≤ old.time
    → ((time : ℕ) (image : Image) → start ≤ time → time ≤ old.time → old.left_since time image → Recovers opened image)
    → StandsByPieces opened lists start new.time new.left_since

-- so it is since the start of a run, where each image was one and the same then, which is opened as a state
abbrev pub StandsSinceInPieces : List (List Noted) → MovedDisk → Type 0
StandsSinceInPieces lists disk =
    (state : State) (start : Image) → Each (disk.before.left_since disk.before.time) (λ image. image ≡ start)
    → Recovers state start
    → StandsByPieces state lists disk.before.time disk.after.time disk.after.left_since

-- a chronicle is made of an opening and of lists of notes, for which something holds: they have the calls of the first
-- pieces in which the groups of an import of rows into a book are committed behind the opening
pub record LearnsInGroups (book : ℕ) (rows : List Row) (opening : Opening) (chronicle : List Noted)
    (Holds : List (List Noted) → Type 0) : Type 0 where
  pub pieces : List (List Call)
  pub lists : List (List Noted)
  pub cut : AreCommittedIn opening.limit opening.state (import_groups book rows) pieces
  pub noted : AreOfPieces pieces lists
  pub is : chronicle ≡ opening_note opening ∷ notes_of lists
  pub holds : Holds lists

-- a stop at a moment since the start of a run leaves a state behind whole groups of the import of a dictionary
pub record StandsInGroups (book : ℕ) (file : Told) (chronicle : List Noted) (disk : MovedDisk) : Type 0 where
  pub opening : Opening
  pub rows : List Row
  pub read : AreRowsOf (rows ∷ []) (file ∷ [])
  pub learnt : LearnsInGroups book rows opening chronicle (λ lists. StandsSinceInPieces lists disk)

-- what a stop at a moment of a run of `import` leaves: no call was made, or a state behind whole groups
abbrev pub StandsImported : ImportOptions → Told → List Noted → MovedDisk → Type 0
StandsImported options file chronicle disk =
    ((chronicle ≡ []) × StandsSince chronicle disk) ⊎ StandsInGroups options.book file chronicle disk
