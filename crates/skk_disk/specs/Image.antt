-- Images: the bytes of both files of a disk.
use Rattle.std.specs.Prelude.{ℕ, List, []}
use Rattle.skk_disk.specs.declared.which.Which.{Which}
use Rattle.skk_disk.specs.declared.which.Which.TheVariants.{A, B}

-- the bytes of both files, as they are read or as a stop leaves them
pub record Image : Type 0 where
  pub a : List ℕ
  pub b : List ℕ

-- two empty files
abbrev pub empty_image : Image
empty_image = record { a = []; b = [] }

-- the bytes of one of the files
abbrev pub part : Which → Image → List ℕ
part A image = image.a
part B image = image.b

-- the file that is not this one
abbrev pub other : Which → Which
other A = B
other B = A

-- an image in which one file has these bytes instead
abbrev pub with_part : Which → List ℕ → Image → Image
with_part A bytes image = record { a = bytes; b = image.b }
with_part B bytes image = record { a = image.a; b = bytes }
