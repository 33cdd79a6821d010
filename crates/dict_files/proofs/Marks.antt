-- The marks of entries, and where a search among them goes on.
use Rattle.std.proofs.Common.{◌≡◌, ◌∙◌, ℕ, zero, suc, ◌+◌, ◌*◌, ◌-◌, ◌<◌, ◌≤◌, min, Bool, true, false, List, []}
use Rattle.std.proofs.Common.{◌∷◌, ◌++◌, length, map, drop, get_or, refl, sym, ap, arith, inl, inr, encode_utf8_all}
use Rattle.std.proofs.Common.{append_assoc, append-nil, length-drop, slice_range}
use Rattle.std.specs.List.Sorted.{IsPartitionPoint, IsPartitionedBy}
use Rattle.std.proofs.Math.Seq.{drop-nil}
use Rattle.std.proofs.lemmas.Bool.{both_ways, cases_lt, false_from_ne_true}
use Rattle.std.proofs.lemmas.List.{drop_all, drop_more, get_or-drop, get_or-map, get_or-take, length-map}
use Rattle.std.proofs.lemmas.List.{length-take-le, map-append}
use Rattle.dict_files.specs.declared.place.Place.{Place}
use Rattle.dict_files.specs.FilePlaces.{AreMarks, marks_of, reading_at}
use Rattle.dict_files.specs.Marks.{every_sixteenth, spaced}

-- Every sixteenth item

-- what is passed by first may as well be left out
spaced_drop : {X : Type 0} (between skipped : ℕ) (xs : List X)
    → spaced between xs skipped ≡ spaced between (drop skipped xs) 0
spaced_drop between zero xs = refl
spaced_drop between (suc skipped) [] = refl
spaced_drop between (suc skipped) (x ∷ xs) = spaced_drop between skipped xs

-- the items, one by one
spaced_at : {X : Type 0} (skipped j i : ℕ) (xs : List X) (d : X) → i ≡ skipped + j * 16
    → get_or (spaced 15 xs skipped) j d ≡ get_or xs i d
spaced_at skipped j i [] d e = refl
spaced_at zero zero zero (x ∷ xs) d e = refl
spaced_at zero zero (suc i) (x ∷ xs) d e = absurd (omega (arith, e))
spaced_at zero (suc j) zero (x ∷ xs) d e = absurd (omega (arith, e))
spaced_at zero (suc j) (suc i) (x ∷ xs) d e = spaced_at 15 j i xs d (omega (arith, e))
spaced_at (suc skipped) j zero (x ∷ xs) d e = absurd (omega (arith, e))
spaced_at (suc skipped) j (suc i) (x ∷ xs) d e = spaced_at skipped j i xs d (omega (arith, e))

-- there is one for each that the list has
spaced_within : {X : Type 0} (skipped j i : ℕ) (xs : List X) → i ≡ skipped + j * 16 → i < length xs
    → j < length (spaced 15 xs skipped)
spaced_within skipped j i [] e low = absurd (omega (arith, low))
spaced_within zero zero i (x ∷ xs) e low = omega arith
spaced_within zero (suc j) zero (x ∷ xs) e low = absurd (omega (arith, e))
spaced_within zero (suc j) (suc i) (x ∷ xs) e low =
    omega (arith, spaced_within 15 j i xs (omega (arith, e)) (omega (arith, low)))
spaced_within (suc skipped) j zero (x ∷ xs) e low = absurd (omega (arith, e))
spaced_within (suc skipped) j (suc i) (x ∷ xs) e low =
    spaced_within skipped j i xs (omega (arith, e)) (omega (arith, low))

-- and no more
spaced_there : {X : Type 0} (skipped j i : ℕ) (xs : List X) → i ≡ skipped + j * 16
    → j < length (spaced 15 xs skipped) → i < length xs
spaced_there skipped j i [] e low = absurd (omega (arith, low))
spaced_there zero zero zero (x ∷ xs) e low = omega arith
spaced_there zero zero (suc i) (x ∷ xs) e low = absurd (omega (arith, e))
spaced_there zero (suc j) zero (x ∷ xs) e low = omega arith
spaced_there zero (suc j) (suc i) (x ∷ xs) e low =
    omega (arith, spaced_there 15 j i xs (omega (arith, e)) (omega (arith, low)))
spaced_there (suc skipped) j zero (x ∷ xs) e low = omega arith
spaced_there (suc skipped) j (suc i) (x ∷ xs) e low =
    omega (arith, spaced_there skipped j i xs (omega (arith, e)) low)

-- Marks as they are made

-- the marks of entries are the reading of the first and the marks behind the sixteenth
marks_more : (bytes : List ℕ) (place : Place) (places : List Place)
    → marks_of bytes (place ∷ places) ≡ reading_at bytes place ∷ marks_of bytes (drop 15 places)
marks_more bytes place places = ap (λ ps. reading_at bytes place ∷ map (reading_at bytes) ps) (spaced_drop 15 15 places)

drop_on : {X : Type 0} (i n j : ℕ) (xs : List X) → i + n ≡ j → drop n (drop i xs) ≡ drop j xs
drop_on zero n j xs e = let same : n ≡ j = omega (arith, e) in ap (λ k. drop k xs) same
drop_on (suc i) n zero xs e = absurd (omega (arith, e))
drop_on (suc i) n (suc j) [] e = drop-nil n
drop_on (suc i) n (suc j) (x ∷ xs) e = drop_on i n j xs (omega (arith, e))

-- with the mark of the next entry they are one more, and the entries that are left sixteen less
pub mark_added : (bytes : List ℕ) (places : List Place) (marks : List (List ℕ)) (mark : List ℕ) (at : ℕ) (d : Place)
    → at < length places → encode_utf8_all mark ≡ reading_at bytes (get_or places at d)
    → map encode_utf8_all (marks ++ mark ∷ []) ++ marks_of bytes (drop (at + 16) places)
    ≡ map encode_utf8_all marks ++ marks_of bytes (drop at places)
mark_added bytes places marks mark at d low is =
    ap (λ readings. readings ++ marks_of bytes (drop (at + 16) places)) (map-append encode_utf8_all marks (mark ∷ []))
    ∙ append_assoc (map encode_utf8_all marks) (encode_utf8_all mark ∷ []) _
    ∙ ap (λ readings. map encode_utf8_all marks ++ readings) (
    ap (λ reading. reading ∷ marks_of bytes (drop (at + 16) places)) is
    ∙ ap (λ ps. reading_at bytes (get_or places at d) ∷ marks_of bytes ps)
    (sym (drop_on (at + 1) 15 (at + 16) places (omega arith)))
    ∙ sym (marks_more bytes (get_or places at d) (drop (at + 1) places))
    ∙ ap (marks_of bytes) (sym (drop_more places at d low))
    )

-- where none is left all have theirs
pub marks_end : (bytes : List ℕ) (places : List Place) (marks : List (List ℕ)) (at : ℕ) → length places ≤ at
    → map encode_utf8_all marks ++ marks_of bytes (drop at places) ≡ marks_of bytes places
    → AreMarks bytes places marks
marks_end bytes places marks at long so_far =
    sym (append-nil (map encode_utf8_all marks))
    ∙ ap (λ ps. map encode_utf8_all marks ++ marks_of bytes ps) (sym (drop_all at places long)) ∙ so_far

-- Blocks

-- a block of a list, item by item
block_at : {X : Type 0} (start end i : ℕ) (xs : List X) (d : X) → i < end - start
    → get_or (slice_range xs start end) i d ≡ get_or xs (start + i) d
block_at start end i xs d low = get_or-take (end - start) (drop start xs) i d low ∙ get_or-drop start xs i d

pub block_long : {X : Type 0} (start end : ℕ) (xs : List X) → end ≤ length xs
    → length (slice_range xs start end) ≡ end - start
block_long start end xs within =
    length-take-le (end - start) (drop start xs) (omega (arith, length-drop start xs, within))

-- Searches

abbrev nowhere : Place
nowhere = record { start = 0; reading = 0; line = 0 }

-- entries with their marks, and a test that no reading passes which stands behind one that fails it
module _ (bytes : List ℕ) (places : List Place) (marks : List (List ℕ)) (are : AreMarks bytes places marks)
    (test : List ℕ → Bool) (parted : IsPartitionedBy (λ place. test (reading_at bytes place)) places) where
  count : length marks ≡ length (every_sixteenth places)
  count =
      sym (length-map marks encode_utf8_all) ∙ ap length are ∙ length-map (every_sixteenth places) (reading_at bytes)

  mark_is : (j : ℕ) (d : List ℕ) (e : Place) → j < length marks
      → encode_utf8_all (get_or marks j d) ≡ reading_at bytes (get_or places (j * 16) e)
  mark_is j d e low =
      sym (get_or-map encode_utf8_all marks j d [] low)
      ∙ ap (λ readings. get_or readings j []) are
      ∙ get_or-map (reading_at bytes) (every_sixteenth places) j e [] (omega (arith, low, count))
      ∙ ap (reading_at bytes) (spaced_at 0 j (j * 16) places e (omega arith))

  -- the entry of a mark
  mark_there : (j : ℕ) → j < length marks → j * 16 < length places
  mark_there j low = spaced_there 0 j (j * 16) places (omega arith) (omega (arith, low, count))

  there_marked : (j : ℕ) → j * 16 < length places → j < length marks
  there_marked j low = omega (arith, count, spaced_within 0 j (j * 16) places (omega arith) low)

  -- it parts the marks
  pub marks_parted : IsPartitionedBy (λ mark. test (encode_utf8_all mark)) marks
  marks_parted i j d le low passing =
      ap test (mark_is i d nowhere (omega (arith, le, low)))
      ∙ parted (i * 16) (j * 16) nowhere (omega (arith, le)) (mark_there j low)
      (sym (ap test (mark_is j d nowhere low)) ∙ passing)

  -- and the entries of a block
  pub block_parted : (start end : ℕ) → end ≤ length places
      → IsPartitionedBy (λ place. test (reading_at bytes place)) (slice_range places start end)
  block_parted start end within i j d le low passing =
      let long = block_long start end places within in
      let at = λ (k : ℕ) (l : k < end - start).
      ap (λ place. test (reading_at bytes place)) (block_at start end k places d l) in
      at i (omega (arith, le, low, long))
      ∙ parted (start + i) (start + j) d (omega (arith, le)) (omega (arith, low, long, within))
      (sym (at j (omega (arith, low, long))) ∙ passing)

  -- up to the entry of a mark that passes all pass
  before_mark : (j k : ℕ) (d : Place) → j < length marks → test (encode_utf8_all (get_or marks j [])) ≡ true
      → k ≤ j * 16 → test (reading_at bytes (get_or places k d)) ≡ true
  before_mark j k d low passing le =
      parted k (j * 16) d le (mark_there j low) (sym (ap test (mark_is j [] d low)) ∙ passing)

  -- from that of one that fails on all fail
  behind_mark : (j k : ℕ) (d : Place)
      → (j < length marks → test (encode_utf8_all (get_or marks j [])) ≡ false) → j * 16 ≤ k → k < length places
      → test (reading_at bytes (get_or places k d)) ≡ false
  behind_mark j k d failing le low =
      let there = there_marked j (omega (arith, le, low)) in
      false_from_ne_true (test (reading_at bytes (get_or places k d)))
      (λ passing. both_ways (test (encode_utf8_all (get_or marks j []))) (failing there)
      (ap test (mark_is j [] d there) ∙ parted (j * 16) k d le low passing))

  -- so the front of those that pass ends in the block behind the last mark that does
  pub block_point : (marked start end front : ℕ) → marked ≤ length marks
      → IsPartitionPoint (λ mark. test (encode_utf8_all mark) ≡ true)
      (λ mark. test (encode_utf8_all mark) ≡ false) marks marked
      → end ≡ min (marked * 16) (length places) → start ≡ end - 15 → front ≤ length (slice_range places start end)
      → IsPartitionPoint (λ place. test (reading_at bytes place) ≡ true)
      (λ place. test (reading_at bytes place) ≡ false) (slice_range places start end) front
      → IsPartitionPoint (λ place. test (reading_at bytes place) ≡ true)
      (λ place. test (reading_at bytes place) ≡ false) places (start + front)
  block_point marked start end front within point end_is start_is le inner = (
    λ k d low high. elim (cases_lt k start) [
      | inl outside ↦
          before_mark (marked - 1) k d (omega (arith, within, end_is, start_is, outside))
          (point.0 (marked - 1) [] (omega arith) (omega (arith, end_is, start_is, outside)))
          (omega (arith, end_is, start_is, outside))
      | inr inside ↦
          sym (at (k - start) k d (omega (arith, high, le, long)) (omega (arith, inside)))
          ∙ inner.0 (k - start) d (omega arith) (omega (arith, inside, high))
    ],
    λ k d low high. elim (cases_lt k end) [
      | inl inside ↦
          sym (at (k - start) k d (omega (arith, inside, low)) (omega (arith, low)))
          ∙ inner.1 (k - start) d (omega (arith, low)) (omega (arith, inside, low, long))
      | inr outside ↦
          behind_mark marked k d (λ there. point.1 marked [] (omega arith) there)
          (omega (arith, end_is, outside, high)) high
    ],
  )
    where
      long : length (slice_range places start end) ≡ end - start
      long = block_long start end places (omega (arith, end_is))

      at : (i k : ℕ) (d : Place) → i < end - start → start + i ≡ k
          → test (reading_at bytes (get_or (slice_range places start end) i d))
          ≡ test (reading_at bytes (get_or places k d))
      at i k d low e =
          ap (λ place. test (reading_at bytes place))
          (block_at start end i places d low ∙ ap (λ n. get_or places n d) e)
