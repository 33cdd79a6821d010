-- What a sync leaves of the file whose bytes a read gives.
use Rattle.std.specs.Prelude.{◌≡◌, ℕ, List}
use Rattle.std.proofs.Common.{refl, sym, ◌∙◌, subst}
use Rattle.skk_disk.specs.declared.which.Which.{Which}
use Rattle.skk_disk.specs.declared.which.Which.TheVariants.{A, B}
use Rattle.skk_disk.specs.Image.{Image, part, other, with_part}
use Rattle.skk_disk.specs.Moments.{Apart}
use Rattle.skk_disk.specs.Steps.{InFile, ComeFrom}

-- this file of one image, and the other file of another one
abbrev mixed : Which → Image → Image → Image
mixed A c d = record { a = c.a; b = d.b }
mixed B c d = record { a = d.a; b = c.b }

mixed_is : (file : Which) (now : Image → Type 0) → Apart now → (c d : Image) → now c → now d → now (mixed file c d)
mixed_is A now apart c d is_c is_d = apart c d is_c is_d
mixed_is B now apart c d is_c is_d = apart d c is_d is_c

mixed_part : (file : Which) (c d : Image) → part file (mixed file c d) ≡ part file c
mixed_part A c d = refl
mixed_part B c d = refl

mixed_other : (file : Which) (c d : Image) → part (other file) (mixed file c d) ≡ part (other file) d
mixed_other A c d = refl
mixed_other B c d = refl

-- the bytes that a file was given
pub part_with : (file : Which) (bytes : List ℕ) (image : Image) → part file (with_part file bytes image) ≡ bytes
part_with A bytes image = refl
part_with B bytes image = refl

-- where each image now has of a file what a read gives, it comes from an earlier image that had what a read gave then
pub read_images : (file : Which) (S R : List ℕ → List ℕ → Type 0) (tells : Type 0) (old since new : Image → Type 0)
    (seen_old seen_new : Image) → Apart old → (tells → old seen_old) → ComeFrom (InFile file S) old since
    → ((image : Image) → new image → since image) → ((image : Image) → new image → tells)
    → (tells → R (part file seen_old) (part file seen_new))
    → ((image : Image) → new image → part file image ≡ part file seen_new)
    → ComeFrom (InFile file R) old new
read_images file S R tells old since new seen_old seen_new apart reads follows within told step durable image left =
    let is_told = told image left in
    let from = follows image (within image left) in (
      mixed file seen_old from.0,
      mixed_is file old apart seen_old from.0 (reads is_told) from.1,
      record {
        this =
            subst (λ (l : List ℕ). R l (part file image)) (sym (mixed_part file seen_old from.0))
            (subst (λ (l : List ℕ). R (part file seen_old) l) (sym (durable image left)) (step is_told));
        that = from.2.that ∙ sym (mixed_other file seen_old from.0);
      },
    )
