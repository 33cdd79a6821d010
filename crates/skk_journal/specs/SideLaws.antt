-- What an image is opened as by what its live file has and what is known of the other one.
use Rattle.std.proofs.Common.{◌≡◌, inl, inr, ℕ, ◌≤◌, true, false, ◌==◌}
use Rattle.std.proofs.Common.{List, [], ◌∷◌, ◌++◌, refl, sym, ◌∙◌, ap, subst, arith, append_assoc}
use Rattle.std.proofs.lemmas.Bool.{cases_eq}
use Rattle.std.proofs.lemmas.Bool.Decides.{nat_tests}
use Rattle.std.specs.Prelude.{Some, All}
use Rattle.std.specs.Int.{w64}
use Rattle.exact_readers.specs.Numbers.{number_bytes}
use Rattle.skk_disk.specs.declared.which.Which.{Which}
use Rattle.skk_disk.specs.declared.which.Which.TheVariants.{A, B}
use Rattle.skk_disk.specs.Image.{Image, part, other}
use Rattle.skk_journal.specs.declared.live.Live.{Live}
use Rattle.skk_journal.specs.declared.live.Idle.{Idle}
use Rattle.skk_journal.specs.declared.live.Doubt.{Doubt}
use Rattle.skk_journal.specs.declared.live.Doubt.TheVariants as doubts
use Rattle.skk_journal.specs.Contents.{Contents, with_added}
use Rattle.skk_journal.specs.Records.{mark, last_generation, IsSized, IsVersion, framed, HasContents}
use Rattle.skk_journal.specs.RecordLaws.{staged_either}
use Rattle.skk_journal.specs.Generations.{one_more, HasGeneration, live_after}
use Rattle.skk_journal.specs.Heads.{is_fresh}
use Rattle.skk_journal.specs.Filling.{filled_bytes}
use Rattle.skk_journal.specs.Idle.{GivesWay, IsIdle, IsKnown}
use Rattle.skk_journal.specs.Images.{Sides, Opens, OpensEither}
use Rattle.skk_journal.specs.Journal.{IsStagedTo, IsFilled, Holds, HoldsDoubt}
use Rattle.skk_journal.specs.OpeningLaws.{has_marked, sides_open}
use Rattle.skk_journal.specs.GenerationLaws.{next_counts}
use Rattle.skk_journal.specs.IdleLaws.{marked_fresh, known_idle}

-- the file that is not the other one is the file itself
pub other_other : (file : Which) → other (other file) ≡ file
other_other A = refl
other_other B = refl

-- what this file and the other one have, said from the other one
pub turned : (file : Which) (P Q : List ℕ → Type 0) (image : Image) → Sides file P Q image → Sides
    (other file) Q P image
turned file P Q image sides = record {
  this = sides.that;
  that = subst (λ (f : Which). P (part f image)) (sym (other_other file)) sides.this;
}

-- where nothing is in doubt, an image is opened with the contents of its live file
pub holds_opens : (newest : ℕ) (live : Live) (idle : Idle) (contents : Contents) (image : Image)
    → Holds newest live idle contents image → Opens newest contents image
holds_opens newest live idle contents image holds =
    sides_open newest live contents image holds.this
    (known_idle newest (Some live) idle (part (other live.file) image) holds.that)

-- where a gate is in doubt, an image is opened with the records before it, or with those behind it too
pub staged_opens : (newest : ℕ) (live : Live) (idle : Idle) (contents others : Contents) (image : Image)
    → Sides live.file (IsStagedTo newest live.generation contents others) (IsKnown newest (Some live) idle) image
    → OpensEither newest contents others image
staged_opens newest live idle contents others image sides =
    let gives = known_idle newest (Some live) idle (part (other live.file) image) sides.that in
    let added = sides.this.0 in
    elim (staged_either newest live.generation contents added (part live.file image) sides.this.2) [
      | inl has ↦ inl (sides_open newest live contents image has gives)
      | inr has ↦
          inr (subst (λ (c : Contents). Opens newest c image) (sym sides.this.1)
          (sides_open newest live (with_added contents added) image has gives))
    ]

more_small : (own : ℕ) → own ≤ last_generation → one_more own ≤ last_generation
more_small own small = grind (arith, nat_tests)

same_test : (n : ℕ) → (n == n) ≡ true
same_test n = grind (arith, nat_tests)

not_after : (own : ℕ) → (own == one_more (one_more own)) ≡ false
not_after own = grind (arith, nat_tests)

module _ (newest : ℕ) (live : Live) (contents : Contents) (file : List ℕ) where
  -- the file that was live gives way to the next one
  pub old_gives_way : HasContents newest live.generation contents file
      → GivesWay newest (Some (live_after newest live)) file
  old_gives_way has = (
    contents.version,
    live.generation,
    has_marked newest live.generation contents file has,
    next_counts (other live.file) (one_more live.generation) live.generation (same_test (one_more live.generation))
        (not_after live.generation),
  )

  -- a filled file whose gate is open has its contents
  pub filled_has : IsVersion newest contents.version → HasGeneration (Some live) → All IsSized contents.records
      → file ≡ filled_bytes 1 contents.version (one_more live.generation) (framed contents.records)
      → HasContents newest (one_more live.generation) contents file
  filled_has right small sized is =
      let bytes = number_bytes w64 (one_more live.generation) in
      record {
        gate = 0;
        rest = [];
        is =
            is
            ∙ ap (λ (l : List ℕ). 1 ∷ (mark contents.version ++ l))
            (sym (append_assoc bytes (framed contents.records) (0 ∷ [])));
        right = right;
        told = more_small live.generation small;
        sized = sized;
        closed = λ same. omega (arith, same);
      }

-- beside a filled file the old contents count, or its own
pub filled_opens : (newest : ℕ) (live : Live) (contents others : Contents) (image : Image)
    → Sides live.file (HasContents newest live.generation contents) (IsFilled newest live others) image
    → OpensEither newest contents others image
filled_opens newest live contents others image sides =
    let (right, small, sized, (first, filled)) = sides.that in
    let file = part (other live.file) image in
    let next = one_more live.generation in
    elim (cases_eq first 1) [
      | inl is_open ↦
          let is : file ≡ filled_bytes 1 others.version next (framed others.records) =
          filled ∙ ap (λ (n : ℕ). filled_bytes n others.version next (framed others.records)) is_open in
          let gives = turned live.file (λ (l : List ℕ). IsIdle newest (Some (live_after newest live)) l)
          (λ (l : List ℕ). l ≡ file) image
          (record {
            this = inr (old_gives_way newest live contents (part live.file image) sides.this);
            that = refl;
          }) in
          inr (sides_open newest (live_after newest live) others image
          (filled_has newest live others file right small sized is) gives.that)
      | inr shut ↦
          inl (sides_open newest live contents image sides.this
          (inl (subst (λ (l : List ℕ). is_fresh newest l ≡ true) (sym filled)
          (marked_fresh newest first others.version (number_bytes w64 next ++ (framed others.records ++ 0 ∷ []))
          right shut))))
    ]

-- what is in doubt counts or it does not
pub doubt_opens : (newest : ℕ) (live : Live) (idle : Idle) (doubt : Doubt) (contents others : Contents) (image : Image)
    → HoldsDoubt newest live idle doubt contents others image → OpensEither newest contents others image
doubt_opens newest live idle doubts.Calm contents others image holds = absurd holds
doubt_opens newest live idle doubts.Record contents others image holds =
    staged_opens newest live idle contents others image holds
doubt_opens newest live idle doubts.Idle contents others image holds =
    filled_opens newest live contents others image holds
