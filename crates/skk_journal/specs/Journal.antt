-- An open journal, and what each image of its disk has.
use Rattle.std.specs.Prelude.{◌≡◌, ℕ, Bool, true, false, Some, List, All}
use Rattle.skk_disk.specs.declared.disk.Disk.{Ghosts}
use Rattle.skk_disk.specs.Image.{Image}
use Rattle.skk_journal.specs.declared.live.Live.{Live}
use Rattle.skk_journal.specs.declared.live.Idle.{Idle}
use Rattle.skk_journal.specs.declared.live.Doubt.{Doubt}
use Rattle.skk_journal.specs.declared.live.Doubt.TheVariants as doubts
use Rattle.skk_journal.specs.Contents.{Contents, with_added}
use Rattle.skk_journal.specs.Gating.{IsStaged}
use Rattle.skk_journal.specs.Records.{end_of, IsSized, IsVersion, HasContents, framed}
use Rattle.skk_journal.specs.Filling.{filled_bytes}
use Rattle.skk_journal.specs.Generations.{HasGeneration, next_generation}
use Rattle.skk_journal.specs.Idle.{IsKnown}
use Rattle.skk_journal.specs.Images.{Each, Sides}

-- a disk, the newest version that its files may have, its live file, one more than the place of the closed gate behind
-- that file's records, what is known of the idle file, and what may stand open
pub record OpenJournal (D : Type 0) : Type 0 where
  pub disk : D
  pub newest : ℕ
  pub live : Live
  pub end : ℕ
  pub idle : Idle
  pub doubt : Doubt

-- something may stand open
abbrev pub is_in_doubt : Doubt → Bool
is_in_doubt doubts.Calm = false
is_in_doubt doubts.Record = true
is_in_doubt doubts.Idle = true

-- a file has these contents and behind them, and behind some gate, what makes others of them
abbrev pub IsStagedTo : ℕ → ℕ → Contents → Contents → List ℕ → Type 0
IsStagedTo newest generation contents others file =
    (added : List (List ℕ)) × (others ≡ with_added contents added)
    × IsStaged newest generation contents added file

-- a file is filled beside a live one with these contents, behind some first byte, which may be open or closed
abbrev pub IsFilled : ℕ → Live → Contents → List ℕ → Type 0
IsFilled newest live contents file =
    IsVersion newest contents.version × HasGeneration (Some live) × All IsSized contents.records
    × ((first : ℕ)
    × (file ≡ filled_bytes first contents.version (next_generation (Some live)) (framed contents.records)))

-- both files of an image: the live one has these contents, and nothing may stand open
abbrev pub Holds : ℕ → Live → Idle → Contents → Image → Type 0
Holds newest live idle contents =
    Sides live.file (HasContents newest live.generation contents) (IsKnown newest (Some live) idle)

-- nothing is in doubt, and each image that a stop now may leave has these contents
pub record Rests {D : Type 0} (disk : Ghosts D) (journal : OpenJournal D) (contents : Contents) : Type 0 where
  pub calm : is_in_doubt journal.doubt ≡ false
  pub version : journal.live.version ≡ contents.version
  pub end : journal.end ≡ end_of contents.records
  pub images : Each (disk.left_since journal.disk (disk.time journal.disk))
      (Holds journal.newest journal.live journal.idle contents)

-- both files of an image, where others may count than these contents: a record stands behind some gate of the live
-- file, or the idle file is filled, and its own gate may be open
abbrev pub HoldsDoubt : ℕ → Live → Idle → Doubt → Contents → Contents → Image → Type 0
HoldsDoubt newest live idle doubts.Calm contents others image = ⊥
HoldsDoubt newest live idle doubts.Record contents others image =
    Sides live.file (IsStagedTo newest live.generation contents others) (IsKnown newest (Some live) idle) image
HoldsDoubt newest live idle doubts.Idle contents others image =
    Sides live.file (HasContents newest live.generation contents) (IsFilled newest live others) image

-- others may count than these contents, in each image that a stop now may leave
pub record Doubts {D : Type 0} (disk : Ghosts D) (journal : OpenJournal D) (contents others : Contents) : Type 0 where
  pub doubt : is_in_doubt journal.doubt ≡ true
  pub version : journal.live.version ≡ contents.version
  pub end : journal.end ≡ end_of contents.records
  pub images : Each (disk.left_since journal.disk (disk.time journal.disk))
      (HoldsDoubt journal.newest journal.live journal.idle journal.doubt contents others)
