-- How steps in one file follow one another, with the other file as it was.
use Rattle.std.specs.Prelude.{ℕ, List}
use Rattle.std.proofs.Common.{⊎_elim, ◌∙◌, refl}
use Rattle.skk_disk.specs.Image.{Image}
use Rattle.skk_disk.specs.Moments.{Passes, Earlier}
use Rattle.skk_disk.specs.MomentLaws.{left_by_now}
use Rattle.skk_disk.specs.Steps.{InFile, ComeFrom}
use Rattle.skk_disk.specs.declared.which.Which.{Which}

module _ (file : Which) where
  -- a step that says less
  pub weaker : (R T : List ℕ → List ℕ → Type 0) (before now : Image → Type 0)
      → ((old new : List ℕ) → R old new → T old new)
      → ComeFrom (InFile file R) before now → ComeFrom (InFile file T) before now
  weaker R T before now less come image left =
      let from = come image left in
      (from.0, from.1, record { this = less _ _ from.2.this; that = from.2.that })

  -- fewer images
  pub fewer : (R : List ℕ → List ℕ → Type 0) (before some now : Image → Type 0)
      → ((image : Image) → now image → some image)
      → ComeFrom (InFile file R) before some → ComeFrom (InFile file R) before now
  fewer R before some now within come image left = come image (within image left)

  -- no step
  pub no_step : (T : List ℕ → List ℕ → Type 0) (before now : Image → Type 0)
      → ((bytes : List ℕ) → T bytes bytes) → ((image : Image) → now image → before image)
      → ComeFrom (InFile file T) before now
  no_step T before now same within image left =
      (image, within image left, record { this = same _; that = refl })

  -- one step and then another
  pub then : (R S T : List ℕ → List ℕ → Type 0) (before mid now : Image → Type 0)
      → ((old between new : List ℕ) → R old between → S between new → T old new)
      → ComeFrom (InFile file R) before mid → ComeFrom (InFile file S) mid now → ComeFrom (InFile file T) before now
  then R S T before mid now join one two image left =
      let last = two image left in
      let from = one last.0 last.1 in (
        from.0,
        from.1,
        record { this = join _ _ _ from.2.this last.2.this; that = last.2.that ∙ from.2.that },
      )

module _ (file : Which) (start mid end : ℕ) (first second third : ℕ → Image → Type 0)
    (one : Passes start mid first second) (two : Passes mid end second third) where
  -- the moments of one call and then of another one
  pub within : (R At S T : List ℕ → List ℕ → Type 0)
      → ((old new : List ℕ) → R old new → T old new)
      → ((old between new : List ℕ) → At old between → S between new → T old new)
      → ComeFrom (InFile file R) (first start) (second start)
      → ComeFrom (InFile file At) (first start) (second mid)
      → ComeFrom (InFile file S) (second mid) (third mid)
      → ComeFrom (InFile file T) (first start) (third start)
  within R At S T less join in_one at_one in_two image left = ⊎_elim
      (weaker file R T (first start) (second start) less in_one image)
      (then file At S T (first start) (second mid) (third mid) join at_one in_two image)
      (two.goes_on start image one.later left)

module _ (file : Which) (start end : ℕ) (first second : ℕ → Image → Type 0)
    (passes : Passes start end first second) (earlier : Earlier second) where
  -- what holds within a call holds at its end
  pub at_end : (R : List ℕ → List ℕ → Type 0) → ComeFrom (InFile file R) (first start) (second start)
      → ComeFrom (InFile file R) (first start) (second end)
  at_end R come image left = come image (left_by_now start end first second earlier passes image left)
