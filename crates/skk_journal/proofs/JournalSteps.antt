-- What the steps of an open journal leave of both files, in each image.
use Rattle.std.proofs.Common.{◌≡◌, ◌⊎◌, inl, inr, ℕ, ◌+◌, List, ◌++◌, true, false, sym, ◌∙◌, ap, subst, arith, refl}
use Rattle.std.specs.Prelude.{Some, All}
use Rattle.skk_disk.specs.declared.disk.Disk.{Ghosts}
use Rattle.skk_disk.specs.Image.{Image, part, other}
use Rattle.skk_disk.specs.Moments.{Passes}
use Rattle.skk_disk.specs.MomentLaws.{each_within}
use Rattle.skk_disk.specs.Steps.{InFile, ComeFrom, Makes}
use Rattle.skk_disk.specs.declared.which.Which.{Which}
use Rattle.skk_journal.specs.declared.live.Live.{Live}
use Rattle.skk_journal.specs.declared.live.Idle.{Idle}
use Rattle.skk_journal.specs.declared.live.Idle.TheVariants.{Blank, Loose}
use Rattle.skk_journal.specs.declared.live.Doubt.{Doubt}
use Rattle.skk_journal.specs.declared.live.Doubt.TheVariants as doubts
use Rattle.skk_journal.specs.Contents.{Contents, with_added}
use Rattle.skk_journal.specs.Records.{IsSized, IsVersion, framed, end_of, HasContents}
use Rattle.skk_journal.specs.RecordLaws.{gated_shut}
use Rattle.skk_journal.specs.Generations.{HasGeneration, one_more, live_after}
use Rattle.skk_journal.specs.Filling.{filled_bytes, IsReady}
use Rattle.skk_journal.proofs.FirstBytes.{first_blank}
use Rattle.skk_journal.specs.Gating.{KeepsStaged, Gates, Adds, AddsAllOrNone, FailsAdding}
use Rattle.skk_journal.specs.Idle.{IsIdle, IsKnown, OtherFirst, FirstIs}
use Rattle.skk_journal.specs.Images.{Each, Sides, Opens, OpensEither}
use Rattle.skk_journal.specs.Journal.{OpenJournal, is_in_doubt, IsStagedTo, IsFilled, Holds, Rests, HoldsDoubt, Doubts}
use Rattle.skk_journal.specs.OpeningLaws.{sides_open}
use Rattle.skk_journal.proofs.SideSteps.{sides_on, sides_off}
use Rattle.skk_journal.specs.SideLaws.{turned, holds_opens, staged_opens, filled_opens}
use Rattle.skk_journal.proofs.SideSteps.{filled_other, old_loose, ready_first}
use Rattle.skk_journal.specs.SideLaws.{filled_has}

module _ {D : Type 0} (disk : Ghosts D) (old : OpenJournal D) (contents : Contents) (rests : Rests disk old contents)
    (added : List (List ℕ)) (now : D) where
  -- at each moment at which records are added none of them counts, or all of them do
  pub adding_opens : (since : ℕ)
      → ComeFrom (InFile old.live.file (AddsAllOrNone old.end added)) (disk.left_since old.disk (disk.time old.disk))
      (disk.left_since now since)
      → Each (disk.left_since now since) (OpensEither old.newest contents (with_added contents added))
  adding_opens since come image left =
      let own = old.live.generation in
      let sides = sides_on _ _ _ _ _ _
      (λ (file : List ℕ). HasContents old.newest own contents file
      ⊎ HasContents old.newest own (with_added contents added) file)
      (λ was new adds has. adds old.newest own contents rests.end has) come rests.images image left in
      elim sides.this [
        | inl has ↦
            inl (holds_opens old.newest old.live old.idle contents image (record { this = has; that = sides.that }))
        | inr has ↦
            inr (holds_opens old.newest old.live old.idle (with_added contents added) image
            (record { this = has; that = sides.that }))
      ]

  -- behind an addition that failed, by what is in doubt
  pub adding_failed : (doubt : Doubt)
      → ComeFrom (InFile old.live.file (FailsAdding doubt old.end added))
      (disk.left_since old.disk (disk.time old.disk)) (disk.left_since now (disk.time now))
      → Rests disk (record old { disk = now; doubt = doubt }) contents
      ⊎ Doubts disk (record old { disk = now; doubt = doubt }) contents (with_added contents added)
  adding_failed doubts.Calm come = inl (record {
    calm = refl;
    version = rests.version;
    end = rests.end;
    images = sides_on _ _ _ _ _ _ (HasContents old.newest old.live.generation contents)
        (λ was new keeps has. keeps old.newest old.live.generation contents rests.end has) come rests.images;
  })
  adding_failed doubts.Record come = inr (record {
    doubt = refl;
    version = rests.version;
    end = rests.end;
    images = sides_on _ _ _ _ _ _
        (IsStagedTo old.newest old.live.generation contents (with_added contents added))
        (λ was new stages has. (added, refl, stages old.newest old.live.generation contents rests.end has)) come
        rests.images;
  })
  adding_failed doubts.Idle come = inr (record {
    doubt = refl;
    version = rests.version;
    end = rests.end;
    images = λ image left. absurd (come image left).2.this;
  })

  -- behind one that did not, they are there
  pub adding_rests : (end : ℕ) (doubt : Doubt) → end ≡ end_of (contents.records ++ added) → is_in_doubt doubt ≡ false
      → ComeFrom (InFile old.live.file (Adds old.end added)) (disk.left_since old.disk (disk.time old.disk))
      (disk.left_since now (disk.time now))
      → Rests disk (record old { disk = now; end = end; doubt = doubt }) (with_added contents added)
  adding_rests end doubt is calm come = record {
    calm = calm;
    version = rests.version;
    end = is;
    images = sides_on _ _ _ _ _ _ (HasContents old.newest old.live.generation (with_added contents added))
        (λ was new adds has. adds old.newest old.live.generation contents rests.end has) come rests.images;
  }

module _ (newest : ℕ) (live : Live) (idle : Idle) (contents others : Contents) (at : ℕ)
    (is : at + 1 ≡ end_of contents.records) (before now : Image → Type 0)
    (each : Each before (HoldsDoubt newest live idle doubts.Record contents others)) where
  -- while their gate is written, the added records are there or not
  pub gating_keeps : ComeFrom (InFile live.file (KeepsStaged at)) before now
      → Each now (HoldsDoubt newest live idle doubts.Record contents others)
  gating_keeps come =
      sides_on _ _ _ _ (IsStagedTo newest live.generation contents others) _
      (IsStagedTo newest live.generation contents others)
      (λ old new keeps staged. (staged.0, staged.1, keeps newest live.generation contents staged.0 is staged.2)) come
      each

  pub gating_opens : ComeFrom (InFile live.file (KeepsStaged at)) before now
      → Each now (OpensEither newest contents others)
  gating_opens come image left =
      staged_opens newest live idle contents others image (gating_keeps come image left)

  -- behind a closed gate they are not there
  pub gate_shut : ComeFrom (InFile live.file (Gates at 0)) before now → Each now (Holds newest live idle contents)
  gate_shut come =
      sides_on _ _ _ _ (IsStagedTo newest live.generation contents others) _
      (HasContents newest live.generation contents)
      (λ old new gates staged. gated_shut newest live.generation contents staged.0 0 new
      (λ same. omega (arith, same)) (gates newest live.generation contents staged.0 is staged.2)) come each

module _ (newest : ℕ) (live : Live) (contents others : Contents) (file : Which) (is : file ≡ other live.file)
    (before now : Image → Type 0) where
  -- while the idle file is made ready, the contents count
  pub filling_keeps : (idle : Idle)
      → ComeFrom (InFile file (Makes (IsKnown newest (Some live) idle) (IsIdle newest (Some live)))) before now
      → Each before (Holds newest live idle contents) → Each now (Opens newest contents)
  filling_keeps idle come each image left =
      let sides = sides_off _ _ _ _ _ _ (IsIdle newest (Some live)) _ is (λ old new makes known. makes known) come each
      image left in
      sides_open newest live contents image sides.this sides.that

  -- what is known of it then
  pub filling_knows : (idle known : Idle)
      → ComeFrom (InFile file (Makes (IsKnown newest (Some live) idle) (IsKnown newest (Some live) known))) before now
      → Each before (Holds newest live idle contents) → Each now (Holds newest live known contents)
  filling_knows idle known =
      sides_off _ _ _ _ _ (IsKnown newest (Some live) idle) (IsKnown newest (Some live) known) _ is
      (λ old new makes was. makes was)

  -- it is ready
  pub filling_ends : (idle : Idle) (bytes : List ℕ) → bytes ≡ framed others.records
      → ComeFrom (InFile file (Makes (IsKnown newest (Some live) idle)
      (IsReady others.version (one_more live.generation) bytes))) before now
      → Each before (Holds newest live idle contents)
      → Each now (Sides live.file (HasContents newest live.generation contents)
      (IsReady others.version (one_more live.generation) (framed others.records)))
  filling_ends idle bytes same =
      sides_off _ _ _ _ _ (IsKnown newest (Some live) idle)
      (IsReady others.version (one_more live.generation) (framed others.records)) _ is
      (λ old new makes known. makes known ∙ ap (filled_bytes 0 others.version (one_more live.generation)) same)

  -- while the gate of a filled file is written, it counts or not
  pub turning_keeps : ComeFrom (InFile file OtherFirst) before now
      → Each before (Sides live.file (HasContents newest live.generation contents) (IsFilled newest live others))
      → Each now (Sides live.file (HasContents newest live.generation contents) (IsFilled newest live others))
  turning_keeps =
      sides_off _ _ _ _ _ (IsFilled newest live others) (IsFilled newest live others) _ is
      (filled_other newest live others)

  pub turning_opens : ComeFrom (InFile file OtherFirst) before now
      → Each before (Sides live.file (HasContents newest live.generation contents) (IsFilled newest live others))
      → Each now (OpensEither newest contents others)
  turning_opens come each image left =
      filled_opens newest live contents others image (turning_keeps come each image left)

  -- behind a closed gate it is blank
  pub turned_back : ComeFrom (InFile file (FirstIs 0)) before now
      → Each before (Sides live.file (HasContents newest live.generation contents) (IsFilled newest live others))
      → Each now (Holds newest live Blank contents)
  turned_back =
      sides_off _ _ _ _ _ (IsFilled newest live others) (IsKnown newest (Some live) Blank) _ is
      (λ old new first filled. first_blank old new first)

  -- behind an open gate it is live, and the other one gives way whatever its first byte is
  pub turned_over : IsVersion newest others.version → HasGeneration (Some live) → All IsSized others.records
      → ComeFrom (InFile file (FirstIs 1)) before now
      → Each before (Sides live.file (HasContents newest live.generation contents)
      (IsReady others.version (one_more live.generation) (framed others.records)))
      → Each now (Holds newest (live_after newest live) Loose others)
  turned_over right small sized come each image left =
      let next = one_more live.generation in
      let opened = sides_off _ _ _ _ _ (IsReady others.version next (framed others.records))
      (λ (l : List ℕ). l ≡ filled_bytes 1 others.version next (framed others.records)) _ is
      (ready_first 1 others.version next (framed others.records)) come each image left in
      turned live.file _ _ image (record {
        this = old_loose newest live contents (part live.file image) opened.this;
        that = filled_has newest live others (part (other live.file) image) right small sized opened.that;
      })

-- a file that is ready is filled, and its gate closed
pub ready_filled : (newest : ℕ) (live : Live) (contents others : Contents) (now : Image → Type 0)
    → IsVersion newest others.version → HasGeneration (Some live) → All IsSized others.records
    → Each now (Sides live.file (HasContents newest live.generation contents)
    (IsReady others.version (one_more live.generation) (framed others.records)))
    → Each now (Sides live.file (HasContents newest live.generation contents) (IsFilled newest live others))
ready_filled newest live contents others now right small sized each image left =
    let sides = each image left in record { this = sides.this; that = (right, small, sized, (0, sides.that)) }

module _ (newest start mid end : ℕ) (first second third : ℕ → Image → Type 0) (one : Passes start mid first second)
    (two : Passes mid end second third) (live : Live) (idle : Idle) (contents : Contents)
    (each : Each (first start) (Holds newest live idle contents)) where
  -- at each moment at which the other file takes over its contents count or the old ones
  pub turning_over : (others : Contents) (file : Which) → file ≡ other live.file → IsVersion newest others.version
      → HasGeneration (Some live) → All IsSized others.records → (bytes : List ℕ) → bytes ≡ framed others.records
      → ComeFrom (InFile file (Makes (IsKnown newest (Some live) idle) (IsIdle newest (Some live))))
      (first start) (second start)
      → ComeFrom (InFile file (Makes (IsKnown newest (Some live) idle)
      (IsReady others.version (one_more live.generation) bytes))) (first start) (second mid)
      → ComeFrom (InFile file OtherFirst) (second mid) (third mid)
      → Each (third start) (OpensEither newest contents others)
  turning_over others file is right small sized bytes same fills readies turns =
      each_within start mid end first second third one two (OpensEither newest contents others)
      (λ image left. inl (filling_keeps newest live contents others file is _ _ idle fills each image left))
      (turning_opens newest live contents others file is _ _ turns
      (ready_filled newest live contents others _ right small sized
      (filling_ends newest live contents others file is _ _ idle bytes same readies each)))

module _ {D : Type 0} (disk : Ghosts D) (inside viewed : OpenJournal D)
    (doubt : Doubt) (is : inside.doubt ≡ doubt) where
  -- what each image has where this is in doubt
  pub doubted : (contents others : Contents) → inside ≡ viewed → Doubts disk viewed contents others
      → (inside.end ≡ end_of contents.records) × (inside.live.version ≡ contents.version)
      × Each (disk.left_since inside.disk (disk.time inside.disk))
      (HoldsDoubt inside.newest inside.live inside.idle doubt contents others)
  doubted contents others same in_doubt =
      let start = subst (λ (j : OpenJournal D). Doubts disk j contents others) (sym same) in_doubt in (
        start.end,
        start.version,
        subst (λ (d : Doubt). Each (disk.left_since inside.disk (disk.time inside.disk))
            (HoldsDoubt inside.newest inside.live inside.idle d contents others)) is start.images,
      )

  -- a journal that rests has no doubt
  pub no_doubt : (contents : Contents) → inside ≡ viewed → is_in_doubt doubt ≡ true
      → Rests disk viewed contents → ⊥
  no_doubt contents same some rests =
      let start = subst (λ (j : OpenJournal D). Rests disk j contents) (sym same) rests in
      let both : true ≡ false = sym some ∙ sym (ap is_in_doubt is) ∙ start.calm in cc
