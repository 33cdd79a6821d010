-- What a write or a cut makes of a file, and what a stop within it may leave.
use Rattle.std.specs.Prelude.{◌≡◌, ◌⊎◌, ℕ, ◌+◌, ◌-◌, ◌<◌, ◌≤◌, min, max, List, ◌++◌, length, take, drop, get_or}
use Rattle.std.specs.Prelude.{replicate}
use Rattle.skk_disk.specs.declared.which.Which.{Which}
use Rattle.skk_disk.specs.Image.{Image, part, other}

-- a file with these bytes at a place, and with zeros up to it where it was shorter
abbrev pub placed : ℕ → List ℕ → List ℕ → List ℕ
placed at bytes file = take at file ++ (replicate (at - length file) 0 ++ (bytes ++ drop (at + length bytes) file))

-- a file after a whole write of these bytes at a place
abbrev pub IsPlaced : ℕ → List ℕ → List ℕ → List ℕ → Type 0
IsPlaced at bytes old new = new ≡ placed at bytes old

-- two files have the same byte at a place
abbrev pub SameByte : ℕ → List ℕ → List ℕ → Type 0
SameByte place old new = get_or new place 0 ≡ get_or old place 0

-- bytes of a file: from which place on, and how many
pub record Range : Type 0 where
  pub at : ℕ
  pub count : ℕ

-- a place is none of a range
abbrev pub IsOutside : Range → ℕ → Type 0
IsOutside range place = (place < range.at) ⊎ (range.at + range.count ≤ place)

-- a stop within a write of a range: any bytes in it, a length up to its end, and all other bytes as they were
pub record PartlyWritten (range : Range) (old new : List ℕ) : Type 0 where
  pub at_least : length old ≤ length new
  pub at_most : length new ≤ max (length old) (range.at + range.count)
  pub kept : (place : ℕ) → place < length old → IsOutside range place → SameByte place old new

-- a stop within a cut to a length: any length between the two, and the bytes below both as they were
pub record PartlyCut (len : ℕ) (old new : List ℕ) : Type 0 where
  pub at_least : min len (length old) ≤ length new
  pub at_most : length new ≤ length old
  pub kept : (place : ℕ) → place < min len (length old) → SameByte place old new

-- one file goes on by a step, and the other one stays
pub record InFile (file : Which) (step : List ℕ → List ℕ → Type 0) (old new : Image) : Type 0 where
  pub this : step (part file old) (part file new)
  pub that : part (other file) new ≡ part (other file) old

-- where a file was so, it is so now
abbrev pub Makes : (List ℕ → Type 0) → (List ℕ → Type 0) → List ℕ → List ℕ → Type 0
Makes P Q old new = P old → Q new

-- each of the images now is one from before, after a step
abbrev pub ComeFrom : (Image → Image → Type 0) → (Image → Type 0) → (Image → Type 0) → Type 0
ComeFrom step before now = (new : Image) → now new → (old : Image) × before old × step old new
