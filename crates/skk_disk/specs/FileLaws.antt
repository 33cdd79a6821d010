-- What a stop may leave of a file after one more call is what one might have left before it, after a step.
use Rattle.std.specs.Prelude.{◌≡◌, ◌⊎◌, ℕ, ◌+◌, ◌-◌, ◌<◌, ◌≤◌, min, max, Bool, nat_lt, nat_le, ◌&&◌}
use Rattle.std.specs.Prelude.{if◌then◌else◌, List, ◌++◌, length, take, drop, get_or, map, replicate}
use Rattle.std.specs.List.{range_with_len}
use Rattle.std.proofs.Common.{inl, inr, refl, sym, ◌∙◌, ap, arith, length-append, length-drop}
use Rattle.std.proofs.lemmas.Bool.{cases_lt}
use Rattle.std.proofs.lemmas.Bool.Decides.{nat_tests}
use Rattle.std.proofs.lemmas.List.{length-take, length-replicate, get_or-take, get_or-drop, ext_get_or}
use Rattle.std.proofs.lemmas.List.{get_or-append_right, get_or_append_left}
use Rattle.std.proofs.lemmas.List.FromFn.{length-map-range_with_len, get_or-map-range_with_len}
use Rattle.skk_disk.specs.Steps.{placed, SameByte, Range, IsOutside, PartlyWritten, PartlyCut}
use Rattle.skk_disk.specs.FileStates.{FileState, IsUntouched, MayLeave, IsSound}
use Rattle.skk_disk.specs.FileStates.{after_write, torn_write, after_cut, torn_cut, after_sync}

-- so many bytes at a place
abbrev pub range_of : ℕ → ℕ → Range
range_of at count = record { at = at; count = count }

-- a write makes a file as long as its end, where it was shorter
pub length_placed : (at : ℕ) (bytes file : List ℕ)
    → length (placed at bytes file) ≡ max (length file) (at + length bytes)
length_placed at bytes file =
    omega (
      arith,
      length-append (take at file) (replicate (at - length file) 0 ++ (bytes ++ drop (at + length bytes) file)),
      length-append (replicate (at - length file) 0) (bytes ++ drop (at + length bytes) file),
      length-append bytes (drop (at + length bytes) file),
      length-take at file,
      length-replicate {A = ℕ} (at - length file) 0,
      length-drop (at + length bytes) file,
    )

-- a write keeps the bytes outside of its range
pub placed_keeps : (at : ℕ) (bytes file : List ℕ) (place : ℕ) → place < length file
    → IsOutside (range_of at (length bytes)) place → SameByte place file (placed at bytes file)
placed_keeps at bytes file place within (inl before) =
    let front : place < length (take at file) = omega (arith, length-take at file) in
    get_or_append_left
    (take at file) (replicate (at - length file) 0 ++ (bytes ++ drop (at + length bytes) file)) 0 place front
    ∙ get_or-take at file place 0 before
placed_keeps at bytes file place within (inr behind) =
    let zeros = replicate {A = ℕ} (at - length file) 0 in
    let tail = drop (at + length bytes) file in
    let no_zeros : length zeros ≡ 0 = length-replicate {A = ℕ} (at - length file) 0 ∙ omega arith in
    let front : length (take at file) ≡ at = omega (arith, length-take at file) in
    get_or-append_right (take at file) (zeros ++ (bytes ++ tail)) at place 0 front (omega arith)
    ∙ get_or-append_right zeros (bytes ++ tail) 0 (place - at) 0 no_zeros (omega arith)
    ∙ get_or-append_right bytes tail (length bytes) (place - at - 0) 0 refl (omega arith)
    ∙ get_or-drop (at + length bytes) file (place - at - 0 - length bytes) 0
    ∙ ap (λ (p : ℕ). get_or file p 0) (omega arith)

-- a file that was wholly written is one of which any part of the write may be left, and so is one that was not written
pub wholly_written : (at : ℕ) (bytes seen : List ℕ)
    → PartlyWritten (range_of at (length bytes)) seen (placed at bytes seen)
wholly_written at bytes seen = record {
  at_least = omega (arith, length_placed at bytes seen);
  at_most = omega (arith, length_placed at bytes seen);
  kept = λ place within outside. placed_keeps at bytes seen place within outside;
}

pub not_written : (range : Range) (seen : List ℕ) → PartlyWritten range seen seen
not_written range seen =
    record { at_least = omega arith; at_most = omega arith; kept = λ place within outside. refl }

-- the same of a cut
pub wholly_cut : (len : ℕ) (seen : List ℕ) → PartlyCut len seen (take len seen)
wholly_cut len seen = record {
  at_least = omega (arith, length-take len seen);
  at_most = omega (arith, length-take len seen);
  kept = λ place below. get_or-take len seen place 0 (omega arith);
}

pub not_cut : (len : ℕ) (seen : List ℕ) → PartlyCut len seen seen
not_cut len seen = record { at_least = omega arith; at_most = omega arith; kept = λ place below. refl }

-- after each call what a read gives still has a length between the two
pub sound_write : (at : ℕ) (bytes : List ℕ) (file : FileState) → IsSound file → IsSound (after_write at bytes file)
sound_write at bytes file sound = record {
  at_least = omega (arith, sound.at_least, length_placed at bytes file.seen);
  at_most = omega (arith, sound.at_most, length_placed at bytes file.seen);
}

pub sound_torn_write : (at count : ℕ) (file : FileState) → IsSound file → IsSound (torn_write at count file)
sound_torn_write at count file sound =
    record { at_least = sound.at_least; at_most = omega (arith, sound.at_most) }

pub sound_cut : (len : ℕ) (file : FileState) → IsSound file → IsSound (after_cut len file)
sound_cut len file sound = record {
  at_least = omega (arith, sound.at_least, length-take len file.seen);
  at_most = omega (arith, sound.at_most, length-take len file.seen);
}

pub sound_torn_cut : (len : ℕ) (file : FileState) → IsSound file → IsSound (torn_cut len file)
sound_torn_cut len file sound = record { at_least = omega (arith, sound.at_least); at_most = sound.at_most }

pub sound_sync : (file : FileState) → IsSound (after_sync file)
sound_sync file = record { at_least = omega arith; at_most = omega arith }

-- what a read gives is what a stop may leave
pub seen_may_be_left : (file : FileState) → IsSound file → MayLeave file file.seen
seen_may_be_left file sound =
    record { at_least = sound.at_least; at_most = sound.at_most; kept = λ place below untouched. refl }

-- a place is in a range or outside of it
inside_or_not : (range : Range) (place : ℕ)
    → ((range.at ≤ place) × (place < range.at + range.count)) ⊎ IsOutside range place
inside_or_not range place = elim (cases_lt place range.at) [
  | inl before ↦ inr (inl before)
  | inr from ↦ elim (cases_lt place (range.at + range.count)) [
    | inl inside ↦ inl (from, inside)
    | inr behind ↦ inr (inr behind)
  ]
]

abbrev is_inside : Range → ℕ → Bool
is_inside range place = nat_le range.at place && nat_lt place (range.at + range.count)

-- the list that a function gives, place by place
abbrev listed : (ℕ → ℕ) → ℕ → List ℕ
listed byte count = map byte (range_with_len 0 count)

module _ (at count : ℕ) (file : FileState) (sound : IsSound file)
    (left : List ℕ) (may : MayLeave (torn_write at count file) left) where
  -- what was there before: in the range what a read gave, and elsewhere what is left
  byte_before : ℕ → ℕ
  byte_before place = if is_inside (range_of at count) place then get_or file.seen place 0 else get_or left place 0

  before : List ℕ
  before = listed byte_before (min (length left) file.greatest)

  length_before : length before ≡ min (length left) file.greatest
  unfolding before
  length_before = length-map-range_with_len byte_before 0 (min (length left) file.greatest)

  at_place : (place : ℕ) → place < length before → get_or before place 0 ≡ byte_before place
  unfolding before
  at_place place below =
      get_or-map-range_with_len
      byte_before 0 (min (length left) file.greatest) place place 0 (omega (arith, length_before)) (omega arith)

  inside_is : (place : ℕ) → at ≤ place → place < at + count → byte_before place ≡ get_or file.seen place 0
  unfolding byte_before
  inside_is place from inside = grind (arith, nat_tests)

  outside_is : (place : ℕ) → IsOutside (range_of at count) place → byte_before place ≡ get_or left place 0
  unfolding byte_before
  outside_is place (inl front) = grind (arith, nat_tests)
  outside_is place (inr behind) = grind (arith, nat_tests)

  kept_before : (place : ℕ) → place < file.smallest → IsUntouched place file.written → SameByte place file.seen before
  kept_before place below untouched =
      let small : place < length before =
      omega (arith, length_before, may.at_least, sound.at_least, sound.at_most) in
      elim (inside_or_not (range_of at count) place) [
        | inl inside ↦ at_place place small ∙ inside_is place inside.0 inside.1
        | inr outside ↦
            at_place place small ∙ outside_is place outside ∙ may.kept place below (outside, untouched)
      ]

  -- what a stop may leave after a failed write is what one might have left before it, after a part of the write
  pub torn_write_follows : (old : List ℕ) × MayLeave file old × PartlyWritten (range_of at count) old left
  torn_write_follows = (
    before,
    record {
      at_least = omega (arith, length_before, may.at_least, sound.at_least, sound.at_most);
      at_most = omega (arith, length_before);
      kept = kept_before;
    },
    record {
      at_least = omega (arith, length_before);
      at_most = omega (arith, length_before, may.at_most);
      kept = λ place small outside. sym (at_place place small ∙ outside_is place outside);
    },
  )

module _ (at : ℕ) (bytes : List ℕ) (file : FileState) (sound : IsSound file)
    (left : List ℕ) (may : MayLeave (after_write at bytes file) left) where
  -- what a stop may leave after a write it may leave after a failed one too
  left_by_write : MayLeave (torn_write at (length bytes) file) left
  left_by_write = record {
    at_least = may.at_least;
    at_most = may.at_most;
    kept = λ place below untouched.
        may.kept place below untouched
        ∙ placed_keeps at bytes file.seen place (omega (arith, sound.at_least)) untouched.0;
  }

  -- so it is one from before, after a part of the write
  pub write_follows : (old : List ℕ) × MayLeave file old × PartlyWritten (range_of at (length bytes)) old left
  write_follows = torn_write_follows at (length bytes) file sound left left_by_write

module _ (len : ℕ) (file : FileState) (sound : IsSound file)
    (left : List ℕ) (may : MayLeave (torn_cut len file) left) where
  -- what was there before: below the length what is left, and above it what a read gave
  byte_uncut : ℕ → ℕ
  byte_uncut place = if nat_lt place len then get_or left place 0 else get_or file.seen place 0

  uncut : List ℕ
  uncut = listed byte_uncut (max (length left) file.smallest)

  length_uncut : length uncut ≡ max (length left) file.smallest
  unfolding uncut
  length_uncut = length-map-range_with_len byte_uncut 0 (max (length left) file.smallest)

  at_uncut : (place : ℕ) → place < length uncut → get_or uncut place 0 ≡ byte_uncut place
  unfolding uncut
  at_uncut place below =
      get_or-map-range_with_len
      byte_uncut 0 (max (length left) file.smallest) place place 0 (omega (arith, length_uncut)) (omega arith)

  below_is : (place : ℕ) → place < len → byte_uncut place ≡ get_or left place 0
  unfolding byte_uncut
  below_is place below = grind (arith, nat_tests)

  above_is : (place : ℕ) → len ≤ place → byte_uncut place ≡ get_or file.seen place 0
  unfolding byte_uncut
  above_is place above = grind (arith, nat_tests)

  kept_uncut : (place : ℕ) → place < file.smallest → IsUntouched place file.written → SameByte place file.seen uncut
  kept_uncut place below untouched =
      let small : place < length uncut = omega (arith, length_uncut) in
      elim (cases_lt place len) [
        | inl front ↦
            at_uncut place small ∙ below_is place front ∙ may.kept place (omega arith) untouched
        | inr behind ↦ at_uncut place small ∙ above_is place behind
      ]

  -- what a stop may leave after a failed cut is what one might have left before it, after a part of the cut
  pub torn_cut_follows : (old : List ℕ) × MayLeave file old × PartlyCut len old left
  torn_cut_follows = (
    uncut,
    record {
      at_least = omega (arith, length_uncut);
      at_most = omega (arith, length_uncut, may.at_most, sound.at_least, sound.at_most);
      kept = kept_uncut;
    },
    record {
      at_least = omega (arith, length_uncut, may.at_least);
      at_most = omega (arith, length_uncut);
      kept = λ place small. sym (at_uncut place (omega arith) ∙ below_is place (omega arith));
    },
  )

module _ (len : ℕ) (file : FileState) (sound : IsSound file)
    (left : List ℕ) (may : MayLeave (after_cut len file) left) where
  -- what a stop may leave after a cut it may leave after a failed one too
  left_by_cut : MayLeave (torn_cut len file) left
  left_by_cut = record {
    at_least = may.at_least;
    at_most = may.at_most;
    kept = λ place below untouched.
        may.kept place below untouched ∙ get_or-take len file.seen place 0 (omega arith);
  }

  -- so it is one from before, after a part of the cut
  pub cut_follows : (old : List ℕ) × MayLeave file old × PartlyCut len old left
  cut_follows = torn_cut_follows len file sound left left_by_cut

-- what a stop may leave after a sync is what a read gives, and it might have left that before
pub synced_is : (file : FileState) → IsSound file → (left : List ℕ) → MayLeave (after_sync file) left
    → MayLeave file left × (left ≡ file.seen)
synced_is file sound left may =
    let long : length left ≡ length file.seen = omega (arith, may.at_least, may.at_most) in
    let same : left ≡ file.seen = ext_get_or 0 left file.seen long (λ p below. may.kept p (omega arith) tt) in (
      record {
        at_least = omega (arith, long, sound.at_least);
        at_most = omega (arith, long, sound.at_most);
        kept = λ place below untouched. ap (λ (l : List ℕ). get_or l place 0) same;
      },
      same,
    )
