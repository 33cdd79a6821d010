-- Why a learned file is not opened, and why records are not added.
use Rattle.std.specs.Prelude.{◌≡◌, ⊤, ℕ, ◌+◌, ◌<◌, ◌≤◌}
use Rattle.skk_disk.specs.Image.{Image}
use Rattle.skk_disk.specs.declared.which.Which.{Which}
use Rattle.skk_disk.specs.declared.which.Which.TheVariants.{A, B}
use Rattle.skk_journal.specs.declared.fault.OpenFault.{OpenFault}
use Rattle.skk_journal.specs.declared.fault.OpenFault.TheVariants as opening
use Rattle.skk_journal.specs.declared.fault.AppendFault.{AppendFault}
use Rattle.skk_journal.specs.declared.fault.AppendFault.TheVariants.{Full, Disk}
use Rattle.skk_journal.specs.Records.{first_place}
use Rattle.skk_journal.specs.Opening.{not_journal, bad_record, IsOpened}
use Rattle.skk_journal.specs.Found.{payloads, found_from}
use Rattle.skk_journal.specs.Journal.{OpenJournal}

-- the number by which a file is told
abbrev pub file_number : Which → ℕ
file_number A = 0
file_number B = 1

-- an image that is refused is opened so, and the records that are given stand at their places
abbrev pub IsRefused : ℕ → Image → OpenFault → Type 0
IsRefused newest image (opening.NotJournal number first) =
    (file : Which) × (number ≡ file_number file) × IsOpened newest image (not_journal file first)
IsRefused newest image (opening.BadRecord number at version before) =
    (file : Which) × (number ≡ file_number file)
    × IsOpened newest image (bad_record file at (record { version = version; records = payloads before }))
    × (before ≡ found_from first_place (payloads before))
IsRefused newest image fault = ⊤

-- a fact holds unless a disk failed
abbrev pub UnlessDisk : OpenFault → Type 0 → Type 0
UnlessDisk opening.Disk P = ⊤
UnlessDisk fault P = P

-- what has this need is not added under this limit: it would end behind it, where the three numbers are told and the
-- journal is as it was; or it would not, and a disk failed
abbrev pub IsNotAdded : {D : Type 0} → ℕ → ℕ → OpenJournal D → OpenJournal D → AppendFault → Type 0
IsNotAdded need limit old new (Full told_end told_need told_limit) =
    (limit < old.end + need) × (told_end ≡ old.end) × (told_need ≡ need) × (told_limit ≡ limit) × (new ≡ old)
IsNotAdded need limit old new Disk = old.end + need ≤ limit
