-- What is known of both files by the choice that was read.
use Rattle.std.proofs.Common.{◌≡◌, ℕ, List, [], Result, Ok, Err, IfOk, refl, sym, ◌∙◌, ap, subst}
use Rattle.skk_disk.specs.Image.{Image, part, other}
use Rattle.skk_disk.specs.declared.disk.Disk.{Ghosts}
use Rattle.skk_disk.specs.Runs.{OnlyReads}
use Rattle.skk_disk.specs.Steps.{InFile, ComeFrom}
use Rattle.skk_disk.specs.StepLaws.{no_step, then}
use Rattle.skk_disk.specs.declared.which.Which.{Which}
use Rattle.skk_disk.specs.declared.which.Which.TheVariants.{A, B}
use Rattle.skk_journal.specs.declared.choice.LiveChoice.{LiveChoice}
use Rattle.skk_journal.specs.declared.choice.LiveChoice.TheVariants.{NoneBy, CutShortIn, NoLive, LiveIn}
use Rattle.skk_journal.specs.declared.choice.Chosen.{Chosen}
use Rattle.skk_journal.specs.declared.fault.OpenFault.TheVariants.{NotJournal, BadRecord}
use Rattle.skk_journal.specs.declared.found.FoundRecord.{FoundRecord}
use Rattle.skk_journal.specs.declared.live.Live.{Live}
use Rattle.skk_journal.specs.declared.live.Idle.{Idle}
use Rattle.skk_journal.specs.declared.opening.OpenedFiles.{OpenedFiles}
use Rattle.skk_journal.specs.Contents.{Contents, no_records}
use Rattle.skk_journal.specs.Records.{first_place, HasContents}
use Rattle.skk_journal.specs.Found.{payloads, found_from}
use Rattle.skk_journal.specs.Generations.{first_live}
use Rattle.skk_journal.specs.Choice.{choice, idle_beside}
use Rattle.skk_journal.specs.ChoiceLaws.{none_fresh, fresh_known_as}
use Rattle.skk_journal.specs.Idle.{IsFreshAs, idle_of}
use Rattle.skk_journal.specs.Opening.{with_contents, contents_of, HasChosen, BreaksOffIn, IsOpened}
use Rattle.skk_journal.specs.Images.{Each, Sides, Opens, OpensRecords, StillOpens, Anyhow}
use Rattle.skk_journal.specs.Journal.{Holds}
use Rattle.skk_journal.specs.Causes.{file_number, IsRefused}

-- a file is live or none is
pub no_live : (live : Live) → NoLive ≡ LiveIn live → ⊥
no_live live is = cc

module _ (newest : ℕ) (image : Image) where
  -- one of the files is no learned one
  pub none_refused : (chosen : LiveChoice) (file : Which) (number first : ℕ) → chosen ≡ choice newest image
      → chosen ≡ NoneBy file first → number ≡ file_number file → IsRefused newest image (NotJournal number first)
  none_refused chosen file number first read is told = (file, told, sym read ∙ is)

  -- one of the files has no whole generation
  pub cut_refused : (chosen : LiveChoice) (file : Which) (number : ℕ) (before : List FoundRecord)
      → chosen ≡ choice newest image → chosen ≡ CutShortIn file → number ≡ file_number file → before ≡ []
      → IsRefused newest image (BadRecord number 9 newest before)
  cut_refused chosen file number before read is told none = (
    file,
    told,
    subst (BreaksOffIn newest image file 9 (record { version = newest; records = payloads before }))
        (sym (sym read ∙ is))
        (refl, refl, ap (λ (l : List FoundRecord). record { version = newest; records = payloads l }) none),
    none ∙ sym (ap (λ l. found_from first_place (payloads l)) none),
  )

  -- no file is live
  pub none_opened : (records : List FoundRecord) → choice newest image ≡ NoLive → records ≡ []
      → IsOpened newest image (with_contents (contents_of (first_live newest) (payloads records)))
  none_opened records is none =
      subst (HasChosen newest image (contents_of (first_live newest) (payloads records))) (sym is)
      (ap (λ (l : List FoundRecord). contents_of (first_live newest) (payloads l)) none)

  -- so an image that is opened with contents has no records
  pub none_there : (contents : Contents) → choice newest image ≡ NoLive
      → IsOpened newest image (with_contents contents) → contents ≡ no_records newest
  none_there contents is opened = subst (HasChosen newest image contents) is opened

  -- a file is live
  pub live_opened : (live : Live) (contents : Contents) → choice newest image ≡ LiveIn live
      → HasContents newest live.generation contents (part live.file image)
      → IsOpened newest image (with_contents contents)
  live_opened live contents is has = subst (HasChosen newest image contents) (sym is) has

  -- where none is live both are known to be fresh
  pub none_sides : (chosen : Chosen) → choice newest image ≡ NoLive → chosen.first ≡ idle_of image.a
      → chosen.second ≡ idle_of image.b
      → Sides A (IsFreshAs newest chosen.first) (IsFreshAs newest chosen.second) image
  none_sides chosen is first second =
      let fresh = none_fresh newest image is in
      record {
        this = subst (λ (i : Idle). IsFreshAs newest i image.a) (sym first) (fresh_known_as newest image.a fresh.0);
        that = subst (λ (i : Idle). IsFreshAs newest i image.b) (sym second) (fresh_known_as newest image.b fresh.1);
      }

  -- an image is opened as itself
  pub still_opens : (contents : Contents) → Opens newest contents image → StillOpens newest image contents image
  still_opens contents opens = record { records = (contents.version, opens); live = λ some. opens }

-- what is known of the file that is not this one
pub beside_is : (image : Image) (file : Which) (chosen : Chosen) → chosen.first ≡ idle_of image.a
    → chosen.second ≡ idle_of image.b → idle_beside file chosen ≡ idle_of (part (other file) image)
beside_is image A chosen first second = second
beside_is image B chosen first second = first

-- what holds of one image holds of each that is the same
pub each_same : (images : Image → Type 0) (seen : Image) (P : Image → Type 0) → Each images (λ image. image ≡ seen)
    → P seen → Each images P
each_same images seen P same is image left = subst P (sym (same image left)) is

module _ {D : Type 0} (disk : Ghosts D) (start new : D) (reads : OnlyReads disk start new) where
  -- what each image had before a read
  pub each_since : (P : Image → Type 0) → Each (disk.left_since start (disk.time start)) P
      → Each (disk.left_since new (disk.time start)) P
  each_since P each image left = each image (reads.images.no_more (disk.time start) image left)

  pub each_now : (P : Image → Type 0) → Each (disk.left_since start (disk.time start)) P
      → Each (disk.left_since new (disk.time new)) P
  each_now P each image left =
      each image (subst (λ (t : ℕ). disk.left_since start t image) reads.time (reads.images.no_more (disk.time new)
      image left))

  -- what each image is opened with, where there was one, it is opened with after a read
  pub read_opens : (newest : ℕ) (seen : Image) (contents : Contents)
      → Each (disk.left_since start (disk.time start)) (λ image. image ≡ seen) → Opens newest contents seen
      → Each (disk.left_since new (disk.time start)) (StillOpens newest seen contents)
  read_opens newest seen contents one opens =
      each_since (StillOpens newest seen contents)
      (each_same _ seen (StillOpens newest seen contents) one (still_opens newest seen contents opens))

  -- a read changes no file
  pub read_alone : ComeFrom (InFile A Anyhow) (disk.left_since start (disk.time start))
      (disk.left_since new (disk.time start))
  read_alone = no_step A Anyhow _ _ (λ bytes. tt) (λ image left. reads.images.no_more (disk.time start) image left)

  -- a step in the first file behind it changes that one alone
  pub read_step : (last : ℕ → Image → Type 0)
      → ComeFrom (InFile A Anyhow) (disk.left_since new (disk.time new)) (last (disk.time new))
      → ComeFrom (InFile A Anyhow) (disk.left_since start (disk.time start)) (last (disk.time start))
  read_step last step =
      then A Anyhow Anyhow Anyhow (disk.left_since start (disk.time start)) (disk.left_since new (disk.time start))
      (last (disk.time start)) (λ old between new one two. tt) read_alone
      (subst (λ (t : ℕ). ComeFrom (InFile A Anyhow) (disk.left_since new t) (last t)) reads.time step)

  module _ (newest : ℕ) (seen : Image) (one : Each (disk.left_since start (disk.time start)) (λ image. image ≡ seen))
      (chosen : Chosen) (is : choice newest seen ≡ NoLive)
      (first : chosen.first ≡ idle_of seen.a) (second : chosen.second ≡ idle_of seen.b) where
    -- where none is live, both files of each image are known to be fresh
    pub none_each : Each (disk.left_since new (disk.time new))
        (Sides A (IsFreshAs newest chosen.first) (IsFreshAs newest chosen.second))
    none_each = each_now _ (each_same _ seen _ one (none_sides newest seen chosen is first second))

    -- a filling by which each image is opened with no records leaves it opened so
    pub none_fills : (last : ℕ → Image → Type 0) (contents : Contents)
        → (Each (disk.left_since new (disk.time new))
        (Sides A (IsFreshAs newest chosen.first) (IsFreshAs newest chosen.second))
        → Each (last (disk.time new)) (OpensRecords newest []))
        → Opens newest contents seen → Each (last (disk.time start)) (StillOpens newest seen contents)
    none_fills last contents fills opens image left =
        let none = none_there newest seen contents is opens in
        record {
          records =
              subst (λ (c : Contents). OpensRecords newest c.records image) (sym none)
              (fills none_each image (subst (λ (t : ℕ). last t image) (sym reads.time) left));
          live = λ some. absurd (some is);
        }

-- an image with both files of another one is that
pub same_image : (c d : Image) → c.a ≡ d.a → c.b ≡ d.b → c ≡ d
same_image c d a b = λ i. record { a = a i; b = b i }

-- what the one image has that was read, each has
pub read_holds : {E : Type 0} (newest : ℕ) (result : Result OpenedFiles E) (tells P : Type 0) (new : Image → Type 0)
    (image : Image)
    → (tells → IfOk result (λ opened.
    Holds newest opened.live opened.idle (contents_of opened.live (payloads opened.records)) image))
    → (P → (now : Image) → new now → tells × (now ≡ image))
    → IfOk result (λ opened. P → Each new
    (Holds newest opened.live opened.idle (contents_of opened.live (payloads opened.records))))
read_holds newest (Err e) tells P new image holds moments = tt
read_holds newest (Ok opened) tells P new image holds moments = λ p now left.
    let told = moments p now left in
    subst (Holds newest opened.live opened.idle (contents_of opened.live (payloads opened.records))) (sym told.1)
    (holds told.0)
