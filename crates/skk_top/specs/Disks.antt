-- The disk of a run, before and after, and what the calls of a run leave of it.
use Rattle.std.specs.Prelude.{◌≡◌, ⊤, ℕ, ◌≤◌, List, []}
use Rattle.skk_outside.specs.Faults.{Rose}
use Rattle.skk_calls.specs.declared.chronicle.Noted.{Noted}
use Rattle.skk_calls.specs.Histories.{Opening}
use Rattle.skk_calls.specs.Rows.{Row}
use Rattle.skk_calls.specs.States.{State}
use Rattle.skk_disk.specs.declared.disk.Disk.{Ghosts}
use Rattle.skk_disk.specs.Image.{Image}
use Rattle.skk_journal.specs.declared.fault.OpenFault.TheVariants as opening
use Rattle.skk_journal.specs.Images.{Each}
use Rattle.learned_store.specs.Payloads.{newest_version}
use Rattle.learned_store.specs.Recovered.{IsOpenedWith, IsRefused}
use Rattle.learned_store.specs.Stores.{Recovers}
use Rattle.learned_store.specs.Stands.{StandsOver}
use Rattle.caller_work.specs.Disks.{DiskNow, disk_now}
use Rattle.run_endings.specs.declared.fault.RunFault.{RunFault}
use Rattle.run_endings.specs.declared.fault.RunFault.TheVariants.{NotJournal, BadRecord, Outside, Memory}

-- a disk before and after: whether it tells what it holds, what a read gave of it before and gives now, and whether
-- nothing was done to it
pub record MovedDisk : Type 1 where
  pub tells : Type 0
  pub seen : Image
  pub seen' : Image
  pub before : DiskNow
  pub after : DiskNow
  pub is_untouched : Type 0

-- a disk by its meanings, before and after
abbrev pub moved_disk : {D : Type 0} → Ghosts D → D → D → MovedDisk
moved_disk disk old new = record {
  tells = disk.tells;
  seen = disk.seen old;
  seen' = disk.seen new;
  before = disk_now disk old;
  after = disk_now disk new;
  is_untouched = new ≡ old;
}

-- a disk is as it was: a read gives what it gave before, and a stop at a moment since leaves nothing that one before
-- might not have left
pub record IsAsItWas (disk : MovedDisk) : Type 0 where
  pub seen : disk.seen' ≡ disk.seen
  pub images : Each (disk.after.left_since disk.before.time) (disk.before.left_since disk.before.time)

-- why a learned dictionary is not had: a file of it is refused, by its first byte or its least bad place, and both are
-- as they were, where the disk tells that, or a call on the disk failed, or memory is out
abbrev pub RefusesLearned : MovedDisk → RunFault → Type 0
RefusesLearned disk (NotJournal file first) =
    disk.tells → IsRefused disk.seen (opening.NotJournal file first) × IsAsItWas disk
RefusesLearned disk (BadRecord file at) =
    disk.tells → IsRefused disk.seen (opening.BadRecord file at newest_version []) × IsAsItWas disk
RefusesLearned disk Outside = Rose disk.before.faults disk.after.faults
RefusesLearned disk Memory = ⊤
RefusesLearned disk fault = ⊥

-- a dictionary over these system files, each of whose learned files may have so many bytes, was opened so on a disk:
-- where the disk tells, the records that both files are opened with leave the state and end so
pub record IsOpening (disk : MovedDisk) (books : List (List Row)) (most : ℕ) (opening : Opening) : Type 0 where
  pub files : opening.files ≡ books
  pub limit : opening.limit ≡ most
  pub opened : IsOpenedWith disk.tells disk.seen opening.state opening.end
  pub later : disk.before.time ≤ opening.time
  pub counted : disk.before.faults ≤ opening.faults

-- what a stop might have left at a moment since the start of a run is opened as a state that a part of the chronicle
-- may leave, where at the start each image was one and the same, which is opened as a state
abbrev pub StandsSince : List Noted → MovedDisk → Type 0
StandsSince chronicle disk =
    (state : State) (start : Image) → Each (disk.before.left_since disk.before.time) (λ image. image ≡ start)
    → Recovers state start
    → StandsOver state chronicle disk.before.time disk.after.time disk.after.left_since
