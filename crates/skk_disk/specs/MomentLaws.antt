-- How calls on a disk follow one another.
use Rattle.std.specs.Prelude.{ℕ}
use Rattle.std.proofs.Common.{inl, inr, ⊎_elim, arith}
use Rattle.skk_disk.specs.Image.{Image}
use Rattle.skk_disk.specs.Moments.{Passes, Earlier}

-- a disk to which nothing was done
pub passes_nothing : (time : ℕ) (since : ℕ → Image → Type 0) → Passes time time since since
passes_nothing time since =
    record { later = omega arith; goes_on = λ t c le left. inl left; keeps = λ t c le left. left }

module _ (start mid end : ℕ) (first second third : ℕ → Image → Type 0)
    (one : Passes start mid first second) (two : Passes mid end second third) where
  -- one call and then another one are as one
  pub passes_on : Earlier third → Passes start end first third
  passes_on earlier = record {
    later = omega (arith, one.later, two.later);
    goes_on = λ t c le left. ⊎_elim
        (λ before. ⊎_elim
        (λ at_first. inl at_first)
        (λ in_first. inr (two.keeps start c one.later in_first))
        (one.goes_on t c le before))
        (λ in_second. inr (earlier start mid c one.later in_second))
        (two.goes_on t c (omega (arith, le, one.later)) left);
    keeps = λ t c le left. two.keeps t c (omega (arith, le, one.later)) (one.keeps t c le left);
  }

  -- what holds of each image within the first call and of each within the second one holds of each within both
  pub each_within : (P : Image → Type 0)
      → ((c : Image) → second start c → P c) → ((c : Image) → third mid c → P c)
      → (c : Image) → third start c → P c
  each_within P in_first in_second c left =
      ⊎_elim (in_first c) (in_second c) (two.goes_on start c one.later left)

-- an image of now is one of those since a time
pub left_by_now : (start end : ℕ) (first last : ℕ → Image → Type 0) → Earlier last → Passes start end first last
    → (c : Image) → last end c → last start c
left_by_now start end first last earlier passes c left = earlier start end c passes.later left
