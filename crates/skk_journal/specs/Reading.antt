-- Records that are read one after another, part by part.
use Rattle.std.specs.Prelude.{◌≡◌, ⊤, ℕ, ◌≤◌, true, List, ◌++◌, length, drop, All}
use Rattle.skk_journal.specs.declared.found.FoundRecord.{FoundRecord}
use Rattle.skk_journal.specs.declared.frames.Stop.{Stop}
use Rattle.skk_journal.specs.declared.frames.Stop.TheVariants.{End, Else}
use Rattle.skk_journal.specs.declared.live.Live.{Live}
use Rattle.skk_journal.specs.declared.records.RecordsFault.{RecordsFault}
use Rattle.skk_journal.specs.declared.records.RecordsFault.TheVariants as reading
use Rattle.skk_journal.specs.declared.fault.OpenFault.{OpenFault}
use Rattle.skk_journal.specs.declared.fault.OpenFault.TheVariants as opening
use Rattle.skk_journal.specs.Records.{IsSized, first_place, framed, place_behind}
use Rattle.skk_journal.specs.Opening.{is_bad}
use Rattle.skk_journal.specs.Frames.{Ends}
use Rattle.skk_journal.specs.Found.{payloads, found_from}
use Rattle.skk_journal.specs.Causes.{file_number}

-- some records were read and added to others: those before a byte of the tail that stands at a place, where it is told
pub record Takes (tells : Type 0) (tail : List ℕ) (at from : ℕ) (old new : List FoundRecord) : Type 0 where
  pub taken : List (List ℕ)
  pub many : from ≡ length (framed taken)
  pub sized : All IsSized taken
  pub found : new ≡ old ++ found_from at taken
  pub is : tells → tail ≡ framed taken ++ drop from tail

-- reading stopped so: at a closed gate, or else, at the tail's first byte only where that is bad
abbrev pub StopsAt : Type 0 → List ℕ → ℕ → List FoundRecord → List FoundRecord → Stop → Type 0
StopsAt tells tail at old new (End from) = Takes tells tail at from old new × (tells → Ends (drop from tail))
StopsAt tells tail at old new (Else from) =
    Takes tells tail at from old new × (tells → from ≡ 0 → is_bad tail ≡ true)

-- reading stopped within so many bytes
abbrev pub StopsWithin : ℕ → Stop → Type 0
StopsWithin count (End from) = from ≤ count
StopsWithin count (Else from) = from ≤ count

-- the bytes are these records, and end at a closed gate
abbrev pub AreRead : List ℕ → List FoundRecord → Type 0
AreRead bytes records =
    (tail : List ℕ) × (bytes ≡ framed (payloads records) ++ tail) × All IsSized (payloads records) × Ends tail

-- where it is said that the records break off, they do so at that place, behind those that are given
abbrev pub BreakOff : List ℕ → RecordsFault → Type 0
BreakOff bytes (reading.Bad at before) =
    (tail : List ℕ) × (bytes ≡ framed (payloads before) ++ tail) × All IsSized (payloads before)
    × (is_bad tail ≡ true) × (at ≡ place_behind (payloads before))
    × (before ≡ found_from first_place (payloads before))
BreakOff bytes fault = ⊤

-- it is not said that records break off
abbrev pub TellsNoPlace : RecordsFault → Type 0
TellsNoPlace (reading.Bad at before) = ⊥
TellsNoPlace fault = ⊤

-- why the records of the live file were not read is why the files are not opened
abbrev pub SameCause : Live → RecordsFault → OpenFault → Type 0
SameCause live reading.Disk fault = fault ≡ opening.Disk
SameCause live reading.Memory fault = fault ≡ opening.Memory
SameCause live (reading.Bad at before) fault = fault ≡ opening.BadRecord (file_number live.file) at live.version before
