-- What an image whose files have these facts is opened as, and that each image is opened in one way only.
use Rattle.std.specs.Prelude.{◌≡◌, ◌≢◌, ℕ, ◌^◌, ◌<◌, Bool, true, false, not, if◌then◌else◌}
use Rattle.std.specs.Prelude.{Option, None, Some, List, [], ◌∷◌, ◌++◌, drop, All}
use Rattle.std.specs.Int.{w64}
use Rattle.std.proofs.Common.{inl, inr, refl, sym, ◌∙◌, ap, subst, arith, append_assoc}
use Rattle.std.proofs.lemmas.Bool.{both_ways}
use Rattle.std.proofs.lemmas.List.{drop_at}
use Rattle.exact_readers.specs.Numbers.{number, number_bytes}
use Rattle.exact_readers.specs.NumberLaws.{told_64, number-exact}
use Rattle.skk_disk.specs.Image.{Image, part, other}
use Rattle.skk_disk.specs.declared.which.Which.{Which}
use Rattle.skk_disk.specs.declared.which.Which.TheVariants.{A, B}
use Rattle.skk_journal.specs.declared.live.Live.{Live}
use Rattle.skk_journal.specs.declared.head.Head.{Head}
use Rattle.skk_journal.specs.declared.head.Head.TheVariants.{Fresh, Foreign, Headed}
use Rattle.skk_journal.specs.declared.choice.LiveChoice.{LiveChoice}
use Rattle.skk_journal.specs.declared.choice.LiveChoice.TheVariants.{NoneBy, CutShortIn, NoLive, LiveIn}
use Rattle.skk_journal.specs.Contents.{Contents, no_records}
use Rattle.skk_journal.specs.Records.{IsSized, mark, generation_place, framed, front, place_behind, HasContents, Marked}
use Rattle.skk_journal.specs.FrameLaws.{Stops, one_list}
use Rattle.skk_journal.specs.Generations.{first_counts, file_counts}
use Rattle.skk_journal.specs.Heads.{is_version, version_byte, is_fresh, is_foreign, first_byte, headed_by, head_of}
use Rattle.skk_journal.specs.Choice.{lives, choice_of, choice}
use Rattle.skk_journal.specs.ChoiceLaws.{judged}
use Rattle.skk_journal.specs.Idle.{IsIdle}
use Rattle.skk_journal.specs.HeadLaws.{version_tested}
use Rattle.skk_journal.specs.Opening.{is_bad, BreaksOff, Opening, with_contents, not_journal, bad_record, HasChosen}
use Rattle.skk_journal.specs.Opening.{BreaksOffIn, IsOpened}
use Rattle.skk_journal.specs.Images.{Opens, OpensRecords}

-- a file with an open gate, a right mark and a generation is headed
pub marked_head : (newest version generation : ℕ) (file : List ℕ) → Marked newest 1 version generation file
    → head_of newest file ≡ Headed version generation
marked_head newest version generation file marked =
    let fits : generation < 256 ^ 8 = omega (arith, marked.told) in
    subst (λ (l : List ℕ). head_of newest l ≡ Headed version generation) (sym marked.is)
    (by (is_version newest version) (version_tested newest version marked.right)
    ((number w64).step (number_bytes w64 generation ++ marked.rest))
    ∙ ap (headed_by version)
    ((number-exact w64 told_64).complete (number_bytes w64 generation) generation marked.rest (fits, refl)))
  where
    by : (marked : Bool) → marked ≡ true → (read : Option (ℕ × List ℕ))
        → judged 1 marked (headed_by version read) ≡ headed_by version read
    by marked is read = ap (λ (b : Bool). judged 1 b (headed_by version read)) is

-- a file with contents has an open gate, a right mark and its generation
pub has_marked : (newest generation : ℕ) (contents : Contents) (file : List ℕ)
    → HasContents newest generation contents file → Marked newest 1 contents.version generation file
has_marked newest generation contents file has = record {
  rest = framed contents.records ++ has.gate ∷ has.rest;
  is =
      has.is
      ∙ ap (λ (l : List ℕ). 1 ∷ (mark contents.version ++ l))
      (append_assoc (number_bytes w64 generation) (framed contents.records) (has.gate ∷ has.rest));
  right = has.right;
  told = has.told;
}

not_false : (b : Bool) → not b ≡ true → b ≡ false
not_false true is = sym is
not_false false is = refl

module _ (newest : ℕ) where
  fresh_head : (file : List ℕ) → is_fresh newest file ≡ true → head_of newest file ≡ Fresh
  fresh_head file is =
      ap (λ (b : Bool). if b then Fresh else if is_foreign newest file then Foreign (first_byte file)
      else headed_by (version_byte (drop 1 file)) ((number w64).step (drop generation_place file))) is

  -- the choice by heads that are known
  chosen : (image : Image) (first second : Head) → head_of newest image.a ≡ first → head_of newest image.b ≡ second
      → choice newest image ≡ choice_of first second
  chosen image first second is also =
      ap (λ (h : Head). choice_of h (head_of newest image.b)) is ∙ ap (choice_of first) also

  -- the live file is chosen beside an idle one
  live_chosen : (live : Live) (image : Image) → Marked newest 1 live.version live.generation (part live.file image)
      → IsIdle newest (Some live) (part (other live.file) image) → choice newest image ≡ LiveIn live
  live_chosen live image marked idle = by live.file refl marked idle
    where
      named : (file : Which) → live.file ≡ file → lives file live.version live.generation ≡ LiveIn live
      named file at = ap (λ (f : Which). lives f live.version live.generation) (sym at)

      by : (file : Which) → live.file ≡ file → Marked newest 1 live.version live.generation (part file image)
          → IsIdle newest (Some live) (part (other file) image) → choice newest image ≡ LiveIn live
      by A at marked (inl is_fresh) =
          chosen image (Headed live.version live.generation) Fresh (marked_head _ _ _ _ marked)
          (fresh_head image.b is_fresh)
          ∙ named A at
      by A at marked (inr (version, older, old, wins)) =
          let which : first_counts live.generation older ≡ true =
          ap (λ (f : Which). file_counts f live.generation older) (sym at) ∙ wins in
          chosen image (Headed live.version live.generation) (Headed version older) (marked_head _ _ _ _ marked)
          (marked_head _ _ _ _ old)
          ∙ ap (λ (b : Bool). if b then lives A live.version live.generation else lives B version older) which
          ∙ named A at
      by B at marked (inl is_fresh) =
          chosen image Fresh (Headed live.version live.generation) (fresh_head image.a is_fresh)
          (marked_head _ _ _ _ marked)
          ∙ named B at
      by B at marked (inr (version, older, old, wins)) =
          let won : not (first_counts older live.generation) ≡ true =
          ap (λ (f : Which). file_counts f live.generation older) (sym at) ∙ wins in
          chosen image (Headed version older) (Headed live.version live.generation) (marked_head _ _ _ _ old)
          (marked_head _ _ _ _ marked)
          ∙ ap (λ (b : Bool). if b then lives A version older else lives B live.version live.generation)
          (not_false (first_counts older live.generation) won)
          ∙ named B at

  -- an image whose live file has contents, and whose other file is idle, is opened with them
  pub sides_open : (live : Live) (contents : Contents) (image : Image)
      → HasContents newest live.generation contents (part live.file image)
      → IsIdle newest (Some live) (part (other live.file) image) → Opens newest contents image
  sides_open live contents image has idle =
      let of_file : Live =
      record { file = live.file; version = contents.version; generation = live.generation } in
      subst (HasChosen newest image contents)
      (sym (live_chosen of_file image (has_marked newest live.generation contents (part live.file image) has) idle))
      has

  -- where the second file is fresh, and the first one is fresh or has no records, the image is opened with none
  pub none_open : (image : Image) → IsIdle newest None image.a → is_fresh newest image.b ≡ true
      → OpensRecords newest [] image
  none_open image (inl is_fresh) also = (
    newest,
    subst (HasChosen newest image (no_records newest))
        (sym (chosen image Fresh Fresh (fresh_head image.a is_fresh) (fresh_head image.b also))) refl,
  )
  none_open image (inr (version, generation, has)) also =
      let marked = has_marked newest generation (no_records version) image.a has in (
        version,
        subst (HasChosen newest image (no_records version))
            (sym (chosen image (Headed version generation) Fresh
            (marked_head newest version generation image.a marked) (fresh_head image.b also))) has,
      )

-- a closed gate is not bad
pub shut_is_good : (gate : ℕ) (rest tail : List ℕ) → tail ≡ gate ∷ rest → gate ≢ 1 → is_bad tail ≡ false
shut_is_good gate rest tail is shut = grind (arith, is, shut)

-- a file of a generation has these contents, and this tail, where their records stop
record Reads (generation : ℕ) (contents : Contents) (tail file : List ℕ) : Type 0 where
  is : file ≡ front generation contents ++ tail
  sized : All IsSized contents.records
  stops : Stops tail

module _ (newest generation : ℕ) (file : List ℕ) where
  reads_of_has : (contents : Contents) (has : HasContents newest generation contents file)
      → Reads generation contents (has.gate ∷ has.rest) file
  reads_of_has contents has =
      record { is = has.is; sized = has.sized; stops = inl (has.gate, has.rest, refl, has.closed) }

  reads_of_bad : (contents : Contents) (at : ℕ) (off : BreaksOff generation contents at file)
      → Reads generation contents off.tail file
  reads_of_bad contents at off = record { is = off.is; sized = off.sized; stops = inr off.bad }

  one_version : (xs ys : Contents) (s t : List ℕ) → Reads generation xs s file → Reads generation ys t file
      → xs.version ≡ ys.version
  one_version xs ys s t one two = ap (λ (l : List ℕ). version_byte (drop 1 l)) (sym one.is ∙ two.is)

  one_reading : (xs ys : Contents) (s t : List ℕ) → Reads generation xs s file → Reads generation ys t file
      → (xs.records ≡ ys.records) × (s ≡ t)
  one_reading xs ys s t one two =
      let bytes = number_bytes w64 generation in
      let same : bytes ++ (framed xs.records ++ s) ≡ bytes ++ (framed ys.records ++ t) =
      sym (append_assoc bytes (framed xs.records) s) ∙ ap (λ (l : List ℕ). drop 9 l) (sym one.is ∙ two.is)
      ∙ append_assoc bytes (framed ys.records) t in
      one_list xs.records ys.records s t one.sized two.sized one.stops two.stops
      (sym (drop_at bytes (framed xs.records ++ s) 8 (told_64.long generation)) ∙ ap (λ (l : List ℕ). drop 8 l) same
      ∙ drop_at bytes (framed ys.records ++ t) 8 (told_64.long generation))

  one_contents : (xs ys : Contents) → HasContents newest generation xs file
      → HasContents newest generation ys file → xs ≡ ys
  one_contents xs ys one two =
      let first = reads_of_has xs one in
      let second = reads_of_has ys two in
      let version = one_version xs ys _ _ first second in
      let records = (one_reading xs ys _ _ first second).0 in
      λ i. record { version = version i; records = records i }

  not_both : (xs ys : Contents) (at : ℕ) → HasContents newest generation xs file → BreaksOff generation ys at file → ⊥
  not_both xs ys at has off =
      let same = one_reading _ _ _ _ (reads_of_has xs has) (reads_of_bad ys at off) in
      both_ways (is_bad off.tail) (shut_is_good has.gate has.rest off.tail (sym same.1) has.closed) off.bad

  one_place : (xs ys : Contents) (at place : ℕ) → BreaksOff generation xs at file
      → BreaksOff generation ys place file → (at ≡ place) × (xs.records ≡ ys.records)
  one_place xs ys at place one two =
      let same = one_reading _ _ _ _ (reads_of_bad xs at one) (reads_of_bad ys place two) in
      (one.place ∙ ap place_behind same.0 ∙ sym two.place, same.0)

module _ (newest : ℕ) (image : Image) where
  -- by one choice an image is opened in one way
  contents_alone : (xs ys : Contents) (c : LiveChoice) → HasChosen newest image xs c → HasChosen newest image ys c
      → xs ≡ ys
  contents_alone xs ys (NoneBy file first) one two = absurd one
  contents_alone xs ys (CutShortIn file) one two = absurd one
  contents_alone xs ys NoLive one two = one ∙ sym two
  contents_alone xs ys (LiveIn live) one two =
      one_contents newest live.generation (part live.file image) xs ys one two

  not_refused : (contents before : Contents) (file : Which) (at : ℕ) (c : LiveChoice)
      → HasChosen newest image contents c → BreaksOffIn newest image file at before c → ⊥
  not_refused contents before file at (NoneBy other first) one two = one
  not_refused contents before file at (CutShortIn other) one two = one
  not_refused contents before file at NoLive one two = two
  not_refused contents before file at (LiveIn live) one two =
      not_both newest live.generation (part live.file image) contents before at one two.2

  refused_alone : (file which : Which) (at place : ℕ) (xs ys : Contents) (c : LiveChoice)
      → BreaksOffIn newest image file at xs c → BreaksOffIn newest image which place ys c
      → bad_record file at xs ≡ bad_record which place ys
  refused_alone file which at place xs ys (NoneBy other first) one two = absurd one
  refused_alone file which at place xs ys (CutShortIn cut) one two =
      λ i. bad_record ((one.0 ∙ sym two.0) i) ((one.1 ∙ sym two.1) i) ((one.2 ∙ sym two.2) i)
  refused_alone file which at place xs ys NoLive one two = absurd one
  refused_alone file which at place xs ys (LiveIn live) one two =
      let same = one_place newest live.generation (part live.file image) xs ys at place one.2 two.2 in
      λ i. bad_record ((one.0 ∙ sym two.0) i) (same.0 i)
      (record { version = (one.1 ∙ sym two.1) i; records = same.1 i })

  none_with : (file : Which) (first : ℕ) (c : LiveChoice) (xs : Contents) → c ≡ NoneBy file first
      → HasChosen newest image xs c → ⊥
  none_with file first c xs is has = subst (HasChosen newest image xs) is has

  none_bad : (file which : Which) (first at : ℕ) (c : LiveChoice) (xs : Contents) → c ≡ NoneBy file first
      → BreaksOffIn newest image which at xs c → ⊥
  none_bad file which first at c xs is off = subst (BreaksOffIn newest image which at xs) is off

  abbrev first_of : LiveChoice → ℕ
  first_of (NoneBy file first) = first
  first_of other = 0

  abbrev file_of : LiveChoice → Which
  file_of (NoneBy file first) = file
  file_of other = A

-- whatever an image is opened as, it is opened as that alone
pub one_opening : (newest : ℕ) (image : Image) (one two : Opening) → IsOpened newest image one
    → IsOpened newest image two → one ≡ two
one_opening newest image (with_contents xs) (with_contents ys) is also =
    ap with_contents (contents_alone newest image xs ys (choice newest image) is also)
one_opening newest image (with_contents xs) (not_journal file first) is also =
    absurd (none_with newest image file first (choice newest image) xs also is)
one_opening newest image (with_contents xs) (bad_record file at ys) is also =
    absurd (not_refused newest image xs ys file at (choice newest image) is also)
one_opening newest image (not_journal file first) (with_contents ys) is also =
    absurd (none_with newest image file first (choice newest image) ys is also)
one_opening newest image (not_journal file first) (not_journal which second) is also =
    λ i. not_journal (ap (file_of newest image) (sym is ∙ also) i) (ap (first_of newest image) (sym is ∙ also) i)
one_opening newest image (not_journal file first) (bad_record which at ys) is also =
    absurd (none_bad newest image file which first at (choice newest image) ys is also)
one_opening newest image (bad_record file at xs) (with_contents ys) is also =
    absurd (not_refused newest image ys xs file at (choice newest image) also is)
one_opening newest image (bad_record file at xs) (not_journal which second) is also =
    absurd (none_bad newest image which file second at (choice newest image) xs also is)
one_opening newest image (bad_record file at xs) (bad_record which place ys) is also =
    refused_alone newest image file which at place xs ys (choice newest image) is also
