-- What a call that was made, or that failed, tells of the images of a disk in memory.
use Rattle.std.proofs.Common.{◌≡◌, ℕ, inl, inr, Bool, true, false, List, [], ◌∷◌, ◌++◌}
use Rattle.std.proofs.Common.{length, take, Result, Ok, Err, OnOk, OnErr, if◌then◌else◌, refl, sym, ◌∙◌, ap}
use Rattle.std.proofs.Common.{subst}
use Rattle.std.proofs.lemmas.List.{append-nil}
use Rattle.skk_disk.specs.declared.which.Which.{Which}
use Rattle.skk_disk.specs.declared.which.Which.TheVariants.{A, B}
use Rattle.skk_disk.specs.declared.made_call.MadeCall.{MadeCall}
use Rattle.skk_disk.specs.declared.made_call.MadeCall.TheVariants.{Write, TornWrite, Cut, TornCut, Sync}
use Rattle.skk_disk.specs.Image.{Image, part, with_part}
use Rattle.skk_disk.specs.Moments.{Passes}
use Rattle.skk_disk.specs.MomentLaws.{passes_nothing}
use Rattle.skk_disk.specs.Steps.{placed, Range, PartlyWritten, PartlyCut, InFile, ComeFrom}
use Rattle.skk_disk.specs.FileStates.{MayLeave}
use Rattle.skk_disk.specs.FileLaws.{range_of, wholly_written, not_written, wholly_cut, not_cut}
use Rattle.skk_disk.specs.FileLaws.{write_follows, torn_write_follows, cut_follows, torn_cut_follows, synced_is}
use Rattle.skk_disk.specs.MadeCalls.{DiskState, MemDiskState, empty_disk, after_call, made_by, image_seen}
use Rattle.skk_disk.specs.MadeCalls.{IsImage, LeftSince, IsMade, HasFailed, seen_after}
use Rattle.skk_disk.specs.MadeCallLaws.{AreSound, sound, after_push, passes, follows, left_now, old_or_new}
use Rattle.skk_disk.specs.MadeCallLaws.{now_image}

-- what a read gives of both files after one more call
pub seen_push : (calls : List MadeCall) (call : MadeCall)
    → seen_after (calls ++ call ∷ []) ≡ image_seen (after_call (made_by calls) call)
seen_push calls call = ap image_seen (after_push empty_disk calls call)

seen_write : (file : Which) (disk : DiskState) (at : ℕ) (bytes : List ℕ)
    → image_seen (after_call disk (Write file at bytes))
    ≡ with_part file (placed at bytes (part file (image_seen disk))) (image_seen disk)
seen_write A disk at bytes = refl
seen_write B disk at bytes = refl

pub seen_torn_write : (file : Which) (disk : DiskState) (at count : ℕ)
    → image_seen (after_call disk (TornWrite file at count)) ≡ image_seen disk
seen_torn_write A disk at count = refl
seen_torn_write B disk at count = refl

seen_cut : (file : Which) (disk : DiskState) (len : ℕ) → image_seen (after_call disk (Cut file len))
    ≡ with_part file (take len (part file (image_seen disk))) (image_seen disk)
seen_cut A disk len = refl
seen_cut B disk len = refl

pub seen_torn_cut : (file : Which) (disk : DiskState) (len : ℕ)
    → image_seen (after_call disk (TornCut file len)) ≡ image_seen disk
seen_torn_cut A disk len = refl
seen_torn_cut B disk len = refl

pub seen_sync : (file : Which) (disk : DiskState) → image_seen (after_call disk (Sync file)) ≡ image_seen disk
seen_sync A disk = refl
seen_sync B disk = refl

-- what is kept of a read goes on with the record by what the call does to it
read_goes_on : (call : MadeCall) (old new : List MadeCall) (before after : Image) (change : Image → Image)
    → ((disk : DiskState) → image_seen (after_call disk call) ≡ change (image_seen disk))
    → before ≡ seen_after old → new ≡ old ++ call ∷ [] → after ≡ change before → after ≡ seen_after new
read_goes_on call old new before after change does was made is =
    is ∙ ap change was ∙ sym (does (made_by old)) ∙ sym (seen_push old call) ∙ ap seen_after (sym made)

pub write_goes_on : (file : Which) (at : ℕ) (bytes from : List ℕ) (old new : List MadeCall) (before after : Image)
    → bytes ≡ from → before ≡ seen_after old → new ≡ old ++ Write file at bytes ∷ []
    → after ≡ with_part file (placed at from (part file before)) before → after ≡ seen_after new
write_goes_on file at bytes from old new before after same was made is =
    let change : List ℕ → Image → Image = λ l image. with_part file (placed at l (part file image)) image in
    read_goes_on (Write file at bytes) old new before after (change bytes)
    (λ disk. seen_write file disk at bytes) was made (is ∙ ap (λ (l : List ℕ). change l before) (sym same))

pub cut_goes_on : (file : Which) (len : ℕ) (old new : List MadeCall) (before after : Image)
    → before ≡ seen_after old → new ≡ old ++ Cut file len ∷ []
    → after ≡ with_part file (take len (part file before)) before → after ≡ seen_after new
cut_goes_on file len old new before after was made is =
    read_goes_on (Cut file len) old new before after (λ image. with_part file (take len (part file image)) image)
    (λ disk. seen_cut file disk len) was made is

-- a call that leaves what a read gives
abbrev LeavesRead : MadeCall → Type 0
LeavesRead call = (disk : DiskState) → image_seen (after_call disk call) ≡ image_seen disk

pub read_stays : (call : MadeCall) (old new : List MadeCall) (before : Image) → LeavesRead call
    → before ≡ seen_after old → new ≡ old ++ call ∷ [] → before ≡ seen_after new
read_stays call old new before stays was made =
    read_goes_on call old new before before (λ image. image) stays was made refl

-- the same of a call that may be recorded
pub may_stay : (ok : Bool) (call : MadeCall) (old new : List MadeCall) (before : Image) → LeavesRead call
    → before ≡ seen_after old → new ≡ (if ok then old ++ call ∷ [] else old) → before ≡ seen_after new
may_stay true call old new before stays was made = read_stays call old new before stays was made
may_stay false call old new before stays was made = was ∙ ap seen_after (sym made)

-- a file goes on by a step, where its bytes do, and by one that may do nothing where nothing changes
goes_on_in : (file : Which) (step : List ℕ → List ℕ → Type 0) (image : Image) (bytes : List ℕ)
    → step (part file image) bytes → InFile file step image (with_part file bytes image)
goes_on_in A step image bytes goes = record { this = goes; that = refl }
goes_on_in B step image bytes goes = record { this = goes; that = refl }

stays_in : (file : Which) (step : List ℕ → List ℕ → Type 0) → ((bytes : List ℕ) → step bytes bytes)
    → (image : Image) → InFile file step image image
stays_in file step still image = record { this = still (part file image); that = refl }

-- each image after a call is one from before, after a step
abbrev Follows : (Image → Image → Type 0) → DiskState → MadeCall → Type 0
Follows step disk call =
    (image : Image) → IsImage (after_call disk call) image → (old : Image) × IsImage disk old × step old image

-- so it is where that holds of the file of the call
in_a : (step : List ℕ → List ℕ → Type 0) (disk : DiskState) (image : Image) → MayLeave disk.b image.b
    → (old : List ℕ) × MayLeave disk.a old × step old image.a
    → (old : Image) × IsImage disk old × InFile A step old image
in_a step disk image b from =
    (record { a = from.0; b = image.b }, record { a = from.1; b = b }, record { this = from.2; that = refl })

in_b : (step : List ℕ → List ℕ → Type 0) (disk : DiskState) (image : Image) → MayLeave disk.a image.a
    → (old : List ℕ) × MayLeave disk.b old × step old image.b
    → (old : Image) × IsImage disk old × InFile B step old image
in_b step disk image a from =
    (record { a = image.a; b = from.0 }, record { a = a; b = from.1 }, record { this = from.2; that = refl })

write_step : (file : Which) (disk : DiskState) → AreSound disk → (at : ℕ) (bytes : List ℕ)
    → Follows (InFile file (PartlyWritten (range_of at (length bytes)))) disk (Write file at bytes)
write_step A disk both at bytes image is =
    in_a (PartlyWritten (range_of at (length bytes))) disk image is.b
    (write_follows at bytes disk.a both.a image.a is.a)
write_step B disk both at bytes image is =
    in_b (PartlyWritten (range_of at (length bytes))) disk image is.a
    (write_follows at bytes disk.b both.b image.b is.b)

torn_write_step : (file : Which) (disk : DiskState) → AreSound disk → (at count : ℕ)
    → Follows (InFile file (PartlyWritten (range_of at count))) disk (TornWrite file at count)
torn_write_step A disk both at count image is =
    in_a (PartlyWritten (range_of at count)) disk image is.b (torn_write_follows at count disk.a both.a image.a is.a)
torn_write_step B disk both at count image is =
    in_b (PartlyWritten (range_of at count)) disk image is.a (torn_write_follows at count disk.b both.b image.b is.b)

cut_step : (file : Which) (disk : DiskState) → AreSound disk → (len : ℕ)
    → Follows (InFile file (PartlyCut len)) disk (Cut file len)
cut_step A disk both len image is = in_a (PartlyCut len) disk image is.b (cut_follows len disk.a both.a image.a is.a)
cut_step B disk both len image is = in_b (PartlyCut len) disk image is.a (cut_follows len disk.b both.b image.b is.b)

torn_cut_step : (file : Which) (disk : DiskState) → AreSound disk → (len : ℕ)
    → Follows (InFile file (PartlyCut len)) disk (TornCut file len)
torn_cut_step A disk both len image is =
    in_a (PartlyCut len) disk image is.b (torn_cut_follows len disk.a both.a image.a is.a)
torn_cut_step B disk both len image is =
    in_b (PartlyCut len) disk image is.a (torn_cut_follows len disk.b both.b image.b is.b)

sync_step : (file : Which) (disk : DiskState) → AreSound disk → (image : Image)
    → IsImage (after_call disk (Sync file)) image
    → IsImage disk image × (part file image ≡ part file (image_seen disk))
sync_step A disk both image is =
    let same = synced_is disk.a both.a image.a is.a in (record { a = same.0; b = is.b }, same.1)
sync_step B disk both image is =
    let same = synced_is disk.b both.b image.b is.b in (record { a = is.a; b = same.0 }, same.1)

module _ {V E : Type 0} (result : Result V E) (call : MadeCall) (torn : List MadeCall) (old new : MemDiskState)
    (ok : OnOk result (IsMade call old new)) (err : OnErr result (HasFailed torn old new)) where
  -- what holds of the record before a call, with the call, and with what is left of one that failed, holds after it
  holds_after : (P : List MadeCall → Type 0) → P old.made → P (old.made ++ call ∷ []) → P (old.made ++ torn)
      → P new.made
  holds_after P before made failed = by_result result ok err
    where
      by_result : (r : Result V E) → OnOk r (IsMade call old new) → OnErr r (HasFailed torn old new) → P new.made
      by_result (Ok v) is none = subst P (sym is.made) made
      by_result (Err e) none is = elim is.made [
        | inl same ↦ subst P (sym same) before
        | inr left ↦ subst P (sym left.1) failed
      ]

module _ {V E : Type 0} (result : Result V E) (call torn : MadeCall) (old new : MemDiskState)
    (ok : OnOk result (IsMade call old new)) (err : OnErr result (HasFailed (torn ∷ []) old new)) where
  call_passes : Passes (length old.made) (length new.made) (LeftSince old.made) (LeftSince new.made)
  call_passes =
      holds_after result call (torn ∷ []) old new ok err
      (λ l. Passes (length old.made) (length l) (LeftSince old.made) (LeftSince l))
      (passes_nothing (length old.made) (LeftSince old.made)) (passes old.made call) (passes old.made torn)

  -- where each image after the call, and after a failed one, is one before it after a step that may do nothing, so is
  -- each since the call's start
  images_of : (step : Image → Image → Type 0) → ((image : Image) → step image image)
      → Follows step (made_by old.made) call → Follows step (made_by old.made) torn
      → ComeFrom step (LeftSince old.made (length old.made)) (LeftSince new.made (length old.made))
  images_of step still made failed =
      holds_after result call (torn ∷ []) old new ok err
      (λ l. ComeFrom step (LeftSince old.made (length old.made)) (LeftSince l (length old.made)))
      (λ image left. (image, left, still image)) (follows old.made call step still made)
      (follows old.made torn step still failed)

  -- what a read gives goes on by the step of the call, where a failed one leaves it, and the step may do nothing
  seen_of : (step : Image → Image → Type 0) → ((image : Image) → step image image)
      → step (seen_after old.made) (image_seen (after_call (made_by old.made) call)) → LeavesRead torn
      → step (seen_after old.made) (seen_after new.made)
  seen_of step still made stays =
      let seen = seen_after old.made in
      holds_after result call (torn ∷ []) old new ok err (λ l. step seen (seen_after l)) (still seen)
      (subst (step seen) (sym (seen_push old.made call)) made)
      (subst (step seen) (sym (seen_push old.made torn ∙ stays (made_by old.made))) (still seen))

module _ {V E : Type 0} (result : Result V E) (file : Which) (at : ℕ) (bytes : List ℕ) (old new : MemDiskState)
    (ok : OnOk result (IsMade (Write file at bytes) old new))
    (err : OnErr result (HasFailed (TornWrite file at (length bytes) ∷ []) old new)) where
  abbrev range : Range
  range = range_of at (length bytes)

  abbrev written : Image → Image → Type 0
  written = InFile file (PartlyWritten range)

  abbrev torn : MadeCall
  torn = TornWrite file at (length bytes)

  pub write_images : ComeFrom written (LeftSince old.made (length old.made)) (LeftSince new.made (length old.made))
  write_images =
      images_of result (Write file at bytes) torn old new ok err written
      (stays_in file (PartlyWritten range) (not_written range))
      (write_step file (made_by old.made) (sound old.made) at bytes)
      (torn_write_step file (made_by old.made) (sound old.made) at (length bytes))

  pub write_partly : written (seen_after old.made) (seen_after new.made)
  write_partly =
      let seen = seen_after old.made in
      seen_of result (Write file at bytes) torn old new ok err written
      (stays_in file (PartlyWritten range) (not_written range))
      (subst (written seen) (sym (seen_write file (made_by old.made) at bytes))
      (goes_on_in file (PartlyWritten range) seen (placed at bytes (part file seen))
      (wholly_written at bytes (part file seen))))
      (λ disk. seen_torn_write file disk at (length bytes))

  pub write_past : Passes (length old.made) (length new.made) (LeftSince old.made) (LeftSince new.made)
  write_past = call_passes result (Write file at bytes) torn old new ok err

-- what a read gives after a call that was made
seen_made : (call : MadeCall) (old new : MemDiskState) → IsMade call old new
    → seen_after new.made ≡ image_seen (after_call (made_by old.made) call)
seen_made call old new ok = ap seen_after ok.made ∙ seen_push old.made call

pub write_is : {V E : Type 0} (result : Result V E) (file : Which) (at : ℕ) (bytes : List ℕ) (old new : MemDiskState)
    → OnOk result (IsMade (Write file at bytes) old new)
    → OnOk result (Unit {0} → seen_after new.made
    ≡ with_part file (placed at bytes (part file (seen_after old.made))) (seen_after old.made))
write_is (Ok v) file at bytes old new ok =
    λ told. seen_made (Write file at bytes) old new ok ∙ seen_write file (made_by old.made) at bytes
write_is (Err e) file at bytes old new ok = tt

module _ {V E : Type 0} (result : Result V E) (file : Which) (len : ℕ) (old new : MemDiskState)
    (ok : OnOk result (IsMade (Cut file len) old new))
    (err : OnErr result (HasFailed (TornCut file len ∷ []) old new)) where
  abbrev is_cut : Image → Image → Type 0
  is_cut = InFile file (PartlyCut len)

  pub cut_images : ComeFrom is_cut (LeftSince old.made (length old.made)) (LeftSince new.made (length old.made))
  cut_images =
      images_of result (Cut file len) (TornCut file len) old new ok err is_cut
      (stays_in file (PartlyCut len) (not_cut len))
      (cut_step file (made_by old.made) (sound old.made) len)
      (torn_cut_step file (made_by old.made) (sound old.made) len)

  pub cut_partly : is_cut (seen_after old.made) (seen_after new.made)
  cut_partly =
      let seen = seen_after old.made in
      seen_of result (Cut file len) (TornCut file len) old new ok err is_cut
      (stays_in file (PartlyCut len) (not_cut len))
      (subst (is_cut seen) (sym (seen_cut file (made_by old.made) len))
      (goes_on_in file (PartlyCut len) seen (take len (part file seen)) (wholly_cut len (part file seen))))
      (λ disk. seen_torn_cut file disk len)

  pub cut_past : Passes (length old.made) (length new.made) (LeftSince old.made) (LeftSince new.made)
  cut_past = call_passes result (Cut file len) (TornCut file len) old new ok err

pub cut_is : {V E : Type 0} (result : Result V E) (file : Which) (len : ℕ) (old new : MemDiskState)
    → OnOk result (IsMade (Cut file len) old new)
    → OnOk result (Unit {0} → seen_after new.made
    ≡ with_part file (take len (part file (seen_after old.made))) (seen_after old.made))
cut_is (Ok v) file len old new ok =
    λ told. seen_made (Cut file len) old new ok ∙ seen_cut file (made_by old.made) len
cut_is (Err e) file len old new ok = tt

module _ {V E : Type 0} (result : Result V E) (file : Which) (old new : MemDiskState)
    (ok : OnOk result (IsMade (Sync file) old new)) (err : OnErr result (HasFailed [] old new)) where
  -- what holds of the record before a sync and with it holds after it
  holds_after_sync : (P : List MadeCall → Type 0) → P old.made → P (old.made ++ Sync file ∷ []) → P new.made
  holds_after_sync P before made =
      holds_after result (Sync file) [] old new ok err P before made (subst P (sym (append-nil old.made)) before)

  pub sync_past : Passes (length old.made) (length new.made) (LeftSince old.made) (LeftSince new.made)
  sync_past =
      holds_after_sync (λ l. Passes (length old.made) (length l) (LeftSince old.made) (LeftSince l))
      (passes_nothing (length old.made) (LeftSince old.made)) (passes old.made (Sync file))

  pub sync_images : (image : Image) → LeftSince new.made (length old.made) image
      → LeftSince old.made (length old.made) image
  sync_images image =
      holds_after_sync (λ l. LeftSince l (length old.made) image → LeftSince old.made (length old.made) image)
      (λ left. left)
      (λ left. elim (old_or_new old.made (Sync file) (length old.made) image left) [
        | inl before ↦ before
        | inr after ↦ now_image old.made image (sync_step file (made_by old.made) (sound old.made) image after).0
      ])

sync_sees : (file : Which) (old new : MemDiskState) → IsMade (Sync file) old new
    → seen_after new.made ≡ seen_after old.made
sync_sees file old new ok = seen_made (Sync file) old new ok ∙ seen_sync file (made_by old.made)

pub sync_is : {V E : Type 0} (result : Result V E) (file : Which) (old new : MemDiskState)
    → OnOk result (IsMade (Sync file) old new) → OnOk result (seen_after new.made ≡ seen_after old.made)
sync_is (Ok v) file old new ok = sync_sees file old new ok
sync_is (Err e) file old new ok = tt

pub sync_durable : {V E : Type 0} (result : Result V E) (file : Which) (old new : MemDiskState)
    → OnOk result (IsMade (Sync file) old new)
    → OnOk result ((image : Image) → LeftSince new.made (length new.made) image
    → part file image ≡ part file (seen_after new.made))
sync_durable (Ok v) file old new ok = λ image left.
    let now = left_now old.made (Sync file) image
    (subst (λ (l : List MadeCall). LeftSince l (length l) image) ok.made left) in
    (sync_step file (made_by old.made) (sound old.made) image now).1
    ∙ ap (part file) (sym (sync_sees file old new ok))
sync_durable (Err e) file old new ok = tt
