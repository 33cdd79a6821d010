-- What each image of a disk is opened as, and what its files have: one fact on a file, and one on the other.
use Rattle.std.specs.Prelude.{⊤, ◌≢◌, ◌⊎◌, List, ℕ}
use Rattle.skk_disk.specs.Image.{Image, part, other}
use Rattle.skk_disk.specs.declared.which.Which.{Which}
use Rattle.skk_journal.specs.declared.choice.LiveChoice.TheVariants.{NoLive}
use Rattle.skk_journal.specs.Choice.{choice}
use Rattle.skk_journal.specs.Contents.{Contents}
use Rattle.skk_journal.specs.Opening.{IsOpened, with_contents}

-- this holds of each of these images
abbrev pub Each : (Image → Type 0) → (Image → Type 0) → Type 0
Each images P = (image : Image) → images image → P image

-- this file of an image is so, and the other one so
pub record Sides (file : Which) (P Q : List ℕ → Type 0) (image : Image) : Type 0 where
  pub this : P (part file image)
  pub that : Q (part (other file) image)

-- an image is opened with these contents, where this version is the newest one
abbrev pub Opens : ℕ → Contents → Image → Type 0
Opens newest contents image = IsOpened newest image (with_contents contents)

-- an image is opened with these contents, or with those
abbrev pub OpensEither : ℕ → Contents → Contents → Image → Type 0
OpensEither newest contents others image = Opens newest contents image ⊎ Opens newest others image

-- an image is opened with these records, whatever the version is
abbrev pub OpensRecords : ℕ → List (List ℕ) → Image → Type 0
OpensRecords newest records image =
    (version : ℕ) × Opens newest (record { version = version; records = records }) image

-- an image is opened as one that had these contents: with the same records, and where a file of that one was live with
-- its version too
pub record StillOpens (newest : ℕ) (start : Image) (contents : Contents) (image : Image) : Type 0 where
  pub records : OpensRecords newest contents.records image
  pub live : choice newest start ≢ NoLive → Opens newest contents image

-- a file goes on in any way
abbrev pub Anyhow : List ℕ → List ℕ → Type 0
Anyhow old new = ⊤
