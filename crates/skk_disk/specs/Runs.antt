-- What calls leave of a disk, said once over all that a type of disk tells.
use Rattle.std.specs.Prelude.{◌≡◌, ℕ, ◌≤◌, List}
use Rattle.skk_disk.specs.declared.disk.Disk.{Ghosts}
use Rattle.skk_disk.specs.declared.which.Which.{Which}
use Rattle.skk_disk.specs.Moments.{Passes, SameImages}
use Rattle.skk_disk.specs.Steps.{InFile, ComeFrom}

-- calls on a disk: its time goes on and no image of it is forgotten, and its count of faults never falls
pub record Advances {D : Type 0} (disk : Ghosts D) (old new : D) : Type 0 where
  pub past : Passes (disk.time old) (disk.time new) (disk.left_since old) (disk.left_since new)
  pub counted : disk.faults old ≤ disk.faults new

-- calls that only read: a read gives what it gave, no time goes by, no image comes and none goes, and the count of
-- faults never falls
pub record OnlyReads {D : Type 0} (disk : Ghosts D) (old new : D) : Type 0 where
  pub seen : disk.seen new ≡ disk.seen old
  pub time : disk.time new ≡ disk.time old
  pub images : SameImages (disk.left_since old) (disk.left_since new)
  pub counted : disk.faults old ≤ disk.faults new

-- each image that a stop within calls may leave comes from one that a stop before them might have left, by a step in
-- this file
abbrev pub ImagesWithin : {D : Type 0} → Ghosts D → Which → (List ℕ → List ℕ → Type 0) → D → D → Type 0
ImagesWithin disk file step old new =
    ComeFrom (InFile file step) (disk.left_since old (disk.time old)) (disk.left_since new (disk.time old))

-- and so does each image that a stop after them may leave
abbrev pub ImagesAfter : {D : Type 0} → Ghosts D → Which → (List ℕ → List ℕ → Type 0) → D → D → Type 0
ImagesAfter disk file step old new =
    ComeFrom (InFile file step) (disk.left_since old (disk.time old)) (disk.left_since new (disk.time new))
