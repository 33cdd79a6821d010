-- Time, and the images that a stop at the moments since a time might have left.
use Rattle.std.specs.Prelude.{◌⊎◌, ℕ, ◌≤◌}
use Rattle.skk_disk.specs.Image.{Image}

-- a call from a time to a time: what a stop since t might have left is by now what it might have left before the call,
-- or what one since the call's start might have left
pub record Passes (before now : ℕ) (past since : ℕ → Image → Type 0) : Type 0 where
  pub later : before ≤ now
  pub goes_on : (t : ℕ) (image : Image) → t ≤ before → since t image → past t image ⊎ since before image
  pub keeps : (t : ℕ) (image : Image) → t ≤ before → past t image → since t image

-- no image comes and none goes, since any time
pub record SameImages (past since : ℕ → Image → Type 0) : Type 0 where
  pub no_more : (t : ℕ) (image : Image) → since t image → past t image
  pub no_fewer : (t : ℕ) (image : Image) → past t image → since t image

-- what a stop since a moment might have left, one since an earlier moment might have left
abbrev pub Earlier : (ℕ → Image → Type 0) → Type 0
Earlier since = (t u : ℕ) (image : Image) → t ≤ u → since u image → since t image

-- each file goes its own way: one file of an image and the other file of another one are an image
abbrev pub Apart : (Image → Type 0) → Type 0
Apart now = (c d : Image) → now c → now d → now (record { a = c.a; b = d.b })
