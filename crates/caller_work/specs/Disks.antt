-- A disk over the time of a dictionary, and what the calls of the dictionary leave of it.
use Rattle.std.specs.Prelude.{◌≡◌, ℕ, ◌≤◌, List}
use Rattle.skk_calls.specs.declared.chronicle.Noted.{Noted}
use Rattle.skk_calls.specs.Chronicles.{history_of}
use Rattle.skk_calls.specs.Histories.{Opening, state_after}
use Rattle.skk_calls.specs.Openings.{IsLegalOver}
use Rattle.skk_calls.specs.States.{State}
use Rattle.skk_calls.specs.Tallies.{tally_of}
use Rattle.skk_disk.specs.declared.disk.Disk.{Ghosts}
use Rattle.skk_disk.specs.Image.{Image}
use Rattle.skk_disk.specs.Moments.{Passes}
use Rattle.learned_store.specs.Limits.{AllHadRoom}
use Rattle.learned_store.specs.Stands.{RecoverAmong, left_behind, StandsOver, GoOn}
use Rattle.learned_store.specs.Stores.{Recovers}
use Rattle.learned_store.specs.declared.closed.Closed.{Closed}

-- a disk at some moment: its time, its count of faults, and what a stop since a time might have left
pub record DiskNow : Type 1 where
  pub time : ℕ
  pub faults : ℕ
  pub left_since : ℕ → Image → Type 0

-- a disk by its meanings
abbrev pub disk_now : {D : Type 0} → Ghosts D → D → DiskNow
disk_now ghosts disk =
    record { time = ghosts.time disk; faults = ghosts.faults disk; left_since = ghosts.left_since disk }

-- what the calls of a chronicle leave of the disk that they were made over: what a stop at a moment since the opening
-- might have left is opened as a state that a part of the chronicle may leave, which has each entry that was made by
-- then; now, as the state behind it or one in doubt; its times and counts of faults go on to those of the disk; and
-- each change that is done, or that the disk failed where no other was in doubt, had room in the learned file
pub record KeepsDisk (opening : Opening) (chronicle : List Noted) (disk : DiskNow) : Type 0 where
  pub moments : StandsOver opening.state chronicle opening.time disk.time disk.left_since
  pub now : RecoverAmong (state_after opening.state (history_of chronicle)) (left_behind opening.state chronicle)
      (disk.left_since disk.time)
  pub goes_on : GoOn opening.time opening.faults chronicle disk.time disk.faults
  pub fits : AllHadRoom opening (history_of chronicle)

-- what calls leave of a disk on which a dictionary was just opened with this state: what was so since a start before
-- the opening goes on to be so
pub record RunsOver (opened : State) (chronicle : List Noted) (old new : DiskNow) : Type 0 where
  pub since : (start : ℕ) → start ≤ old.time
      → ((time : ℕ) (image : Image) → start ≤ time → time ≤ old.time → old.left_since time image
      → Recovers opened image)
      → StandsOver opened chronicle start new.time new.left_since
  pub passes : Passes old.time new.time old.left_since new.left_since
  pub counted : old.faults ≤ new.faults

-- what is left of a dictionary that was just opened on a disk, and closed behind its calls: their history is legal, the
-- tally is what they came to, and the disk keeps them
pub record Closes {D : Type 0} (opening : Opening) (closed : Closed D) (old new : DiskNow) : Type 0 where
  pub legal : IsLegalOver opening closed.chronicle
  pub tally_is : closed.tally ≡ tally_of opening.state (history_of closed.chronicle)
  pub kept : KeepsDisk opening closed.chronicle new
  pub runs : RunsOver opening.state closed.chronicle old new
