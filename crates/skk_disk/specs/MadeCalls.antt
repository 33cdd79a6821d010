-- The images of a disk in memory, by the calls in its record.
use Rattle.std.specs.Prelude.{◌≡◌, ◌⊎◌, ℕ, ◌≤◌, ◌<◌, List, [], ◌∷◌, ◌++◌, length, take}
use Rattle.skk_outside.specs.Memory.{CallCount, after_success, after_failure, FailsNext}
use Rattle.skk_disk.specs.declared.which.Which.{Which}
use Rattle.skk_disk.specs.declared.which.Which.TheVariants.{A, B}
use Rattle.skk_disk.specs.declared.made_call.MadeCall.{MadeCall}
use Rattle.skk_disk.specs.declared.made_call.MadeCall.TheVariants.{Write, TornWrite, Cut, TornCut, Sync}
use Rattle.skk_disk.specs.Image.{Image}
use Rattle.skk_disk.specs.FileStates.{FileState, MayLeave, empty_file, after_sync}
use Rattle.skk_disk.specs.FileStates.{after_write, torn_write, after_cut, torn_cut}

-- a record of calls: the calls, in order, and for how many more it has room without taking memory
pub record RecordState : Type 0 where
  pub made : List MadeCall
  pub room : ℕ

-- a disk in memory: the calls in its record, in order, for how many more the record has room without taking memory,
-- and the count of its calls
pub record MemDiskState : Type 0 where
  pub made : List MadeCall
  pub room : ℕ
  pub count : CallCount

-- both files, each since its last sync
pub record DiskState : Type 0 where
  pub a : FileState
  pub b : FileState

-- two empty files
abbrev pub empty_disk : DiskState
empty_disk = record { a = empty_file; b = empty_file }

-- one of the files
abbrev pub file_of : Which → DiskState → FileState
file_of A disk = disk.a
file_of B disk = disk.b

-- a disk in which one file is another one
abbrev pub with_file : Which → FileState → DiskState → DiskState
with_file A file disk = record { a = file; b = disk.b }
with_file B file disk = record { a = disk.a; b = file }

-- a disk after one call
abbrev pub after_call : DiskState → MadeCall → DiskState
after_call disk (Write file at bytes) = with_file file (after_write at bytes (file_of file disk)) disk
after_call disk (TornWrite file at count) = with_file file (torn_write at count (file_of file disk)) disk
after_call disk (Cut file len) = with_file file (after_cut len (file_of file disk)) disk
after_call disk (TornCut file len) = with_file file (torn_cut len (file_of file disk)) disk
after_call disk (Sync file) = with_file file (after_sync (file_of file disk)) disk

-- a disk after calls, one after another
abbrev pub after_calls : DiskState → List MadeCall → DiskState
after_calls disk [] = disk
after_calls disk (call ∷ calls) = after_calls (after_call disk call) calls

-- a disk that was empty, after calls
abbrev pub made_by : List MadeCall → DiskState
made_by calls = after_calls empty_disk calls

-- what a read gives of both files
abbrev pub image_seen : DiskState → Image
image_seen disk = record { a = disk.a.seen; b = disk.b.seen }

-- a stop now may leave this of both files
pub record IsImage (disk : DiskState) (image : Image) : Type 0 where
  pub a : MayLeave disk.a image.a
  pub b : MayLeave disk.b image.b

-- a stop after some number of these calls, and not before the time, might have left this
abbrev pub LeftSince : List MadeCall → ℕ → Image → Type 0
LeftSince calls time image =
    (count : ℕ) × (time ≤ count) × (count ≤ length calls) × IsImage (made_by (take count calls)) image

-- a call was made: it is recorded, and counted as one that went well, and there is room for one more
pub record IsMade (call : MadeCall) (old new : MemDiskState) : Type 0 where
  pub made : new.made ≡ old.made ++ call ∷ []
  pub count : new.count ≡ after_success old.count
  pub room : 0 < new.room

-- a call failed: it is counted so, and recorded is nothing, or where it was to fail what is left of such a call, and
-- that always where there was room
pub record HasFailed (torn : List MadeCall) (old new : MemDiskState) : Type 0 where
  pub count : new.count ≡ after_failure old.count
  pub recorded : FailsNext old.count → 0 < old.room → new.made ≡ old.made ++ torn
  pub made : (new.made ≡ old.made) ⊎ (FailsNext old.count × (new.made ≡ old.made ++ torn))

-- what a read gives of both files after calls
abbrev pub seen_after : List MadeCall → Image
seen_after calls = image_seen (made_by calls)
