-- How calls on a disk follow one another.
use Rattle.std.proofs.Common.{◌∙◌, refl, arith}
use Rattle.skk_disk.specs.declared.disk.Disk.{Ghosts}
use Rattle.skk_disk.specs.Moments.{Earlier}
use Rattle.skk_disk.specs.MomentLaws.{passes_on, passes_nothing}
use Rattle.skk_disk.specs.Runs.{Advances, OnlyReads}

module _ {D : Type 0} (disk : Ghosts D) where
  -- no call
  pub advances_nothing : (old : D) → Advances disk old old
  advances_nothing old =
      record { past = passes_nothing (disk.time old) (disk.left_since old); counted = omega arith }

  -- calls, and then others
  pub advances_on : (old mid new : D) → Advances disk old mid → Advances disk mid new
      → Earlier (disk.left_since new) → Advances disk old new
  advances_on old mid new one two earlier = record {
    past = passes_on _ _ _ _ _ _ one.past two.past earlier;
    counted = omega (arith, one.counted, two.counted);
  }

  -- calls that only read, and then others that do
  pub reads_on : (old mid new : D) → OnlyReads disk old mid → OnlyReads disk mid new → OnlyReads disk old new
  reads_on old mid new one two = record {
    seen = two.seen ∙ one.seen;
    time = two.time ∙ one.time;
    images = record {
      no_more = λ t image left. one.images.no_more t image (two.images.no_more t image left);
      no_fewer = λ t image left. two.images.no_fewer t image (one.images.no_fewer t image left);
    };
    counted = omega (arith, one.counted, two.counted);
  }
