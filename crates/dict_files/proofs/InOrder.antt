-- Entries in order by their readings.
use Rattle.std.proofs.Common.{◌≡◌, ◌∙◌, ℕ, zero, suc, ◌<◌, true, false, not, ◌&&◌, Option, None, Some, List, [], ◌∷◌}
use Rattle.std.proofs.Common.{All, Bool, length, drop, get_or, refl, sym, ap, arith, append-nil, encode_utf8_all}
use Rattle.std.specs.Cmp.{IsStrictWeakOrder}
use Rattle.std.specs.List.{filter, filter_map, list_all}
use Rattle.std.specs.List.Sorted.{IsPermutation, IsSortedBy, IsStableBy}
use Rattle.std.specs.Str.{bytes_eq}
use Rattle.std.proofs.lemmas.Bool.{and_parts}
use Rattle.std.proofs.lemmas.List.Elements.{All-head, All-tail}
use Rattle.std.proofs.lemmas.List.Sorted.{All-permutation}
use Rattle.skk_text.specs.FilterLaws.{filter_none, find_within}
use Rattle.skk_text.specs.PairsLaws.{list_all-weaker}
use Rattle.ordered_lists.specs.KeyOrders.{bytes_apart, bytes_equal, bytes_less, bytes_order, byte_keys}
use Rattle.ordered_lists.specs.OrderLaws.{order_read, sorted_rises, stable_keeps}
use Rattle.skk_calls.specs.declared.part.Part.{Part}
use Rattle.skk_calls.specs.KeyLaws.{same_encoded, same_part_itself}
use Rattle.skk_calls.specs.Rows.{Row, RowKey, same_part}
use Rattle.skk_calls.specs.States.{row_in}
use Rattle.dict_format.specs.FileLines.{entries_of}
use Rattle.dict_format.specs.ListedLaws.{row-listed}
use Rattle.dict_files.specs.declared.place.Place.{Place}
use Rattle.dict_files.specs.FilePlaces.{IsEntry, IsPart, IsReadable, IsValid, first_row, has_reading, is_above}
use Rattle.dict_files.specs.FilePlaces.{is_below, is_passed, reading_at, rise, rises, row_at}
use Rattle.dict_files.specs.Scanning.{ArePart}

-- what is read of entries of a part is UTF-8
pub entries_valid : (part : Part) (bytes : List ℕ) (places : List Place) → All (IsEntry part bytes) places
    → All (IsValid bytes) places
entries_valid part bytes places are k d low = (are k d low).valid

-- so are their readings
pub entries_readable : (part : Part) (bytes : List ℕ) (places : List Place) → All (IsEntry part bytes) places
    → All (IsReadable bytes) places
entries_readable part bytes places are k d low = (are k d low).readable

-- Rows

-- the first row that entries with a reading spell is that of its key among the rows that they spell
first-found : (part : Part) (bytes reading : List ℕ) (places : List Place) → All (IsEntry part bytes) places
    → first_row part bytes (filter (has_reading bytes (encode_utf8_all reading)) places)
    ≡ row_in (record { part = part; reading = reading }) (filter_map (row_at part bytes) places)
first-found part bytes reading [] are = refl
first-found part bytes reading (place ∷ places) are =
    grind (
      arith,
      (All-head (IsEntry part bytes) place places are).keyed,
      same_part_itself part,
      λ (row : Row). same_encoded row.key.reading reading,
      first-found part bytes reading places (All-tail (IsEntry part bytes) place places are),
    )

-- Sorted entries

module _ (bytes : List ℕ) where
  -- an entry stands before another by their readings
  abbrev pub place_less : Place → Place → Bool
  place_less place other = bytes_less (reading_at bytes place) (reading_at bytes other)

  pub place_order : IsStrictWeakOrder place_less
  place_order = order_read (reading_at bytes) bytes_less bytes_order

  -- of two readings neither is less where they are one
  tie-is : (reading other : List ℕ)
      → (not (bytes_less reading other) && not (bytes_less other reading)) ≡ bytes_eq other reading
  tie-is reading other =
      grind (arith, bytes_equal other reading, byte_keys.irreflexive reading, bytes_apart other reading)

  -- the entries of a part that were sorted in a stable way are the file's
  pub part-sorted : (part : Part) (places moved : List Place) → IsPermutation places moved
      → IsSortedBy place_less moved → IsStableBy place_less places moved → ArePart part bytes places []
      → IsPart part bytes moved
  part-sorted part places moved moves sorted stable are = record {
    entries = All-permutation (IsEntry part bytes) places moved moves are.entries;
    rise = sorted_rises place_less place_order moved sorted;
    rows = λ reading.
        let bytes_of = encode_utf8_all reading in
        let key : RowKey = record { part = part; reading = reading } in
        ap (first_row part bytes)
        (stable_keeps place_less (has_reading bytes bytes_of) (same bytes_of) places moved moves stable)
        ∙ first-found part bytes reading places are.entries ∙ ap (row_in key) (sym (append-nil _) ∙ are.rows)
        ∙ find_within (λ row. same_part row.key.part part) _ (λ row e. grind arith) _
        ∙ sym (row-listed key (entries_of bytes));
  }
    where
      same : (reading : List ℕ) (place other : Place) → has_reading bytes reading place ≡ true
          → (not (place_less place other) && not (place_less other place)) ≡ has_reading bytes reading other
      same reading place other has =
          tie-is (reading_at bytes place) (reading_at bytes other)
          ∙ ap (bytes_eq (reading_at bytes other)) (bytes_equal (reading_at bytes place) reading has)

  -- Searches

  -- what is not greater than a reading is not where a greater one stands, and what is less is less
  pub low_closed : (reading : List ℕ) (place other : Place) → rises bytes place other ≡ true
      → not (is_above bytes reading other) ≡ true → not (is_above bytes reading place) ≡ true
  low_closed reading place other up low =
      grind (arith, bytes_order.chain reading (reading_at bytes other) (reading_at bytes place))

  pub below_closed : (reading : List ℕ) (place other : Place) → rises bytes place other ≡ true
      → is_below bytes reading other ≡ true → is_below bytes reading place ≡ true
  below_closed reading place other up low =
      grind (arith, bytes_order.chain (reading_at bytes other) (reading_at bytes place) reading)

  pub passed_closed : (equal : Bool) (reading : List ℕ) (place other : Place) → rises bytes place other ≡ true
      → is_passed equal reading (reading_at bytes other) ≡ true
      → is_passed equal reading (reading_at bytes place) ≡ true
  passed_closed true reading place other up passed = low_closed reading place other up passed
  passed_closed false reading place other up passed = below_closed reading place other up passed

  -- what has a reading is not less
  pub not_below : (reading : List ℕ) (place : Place) → has_reading bytes reading place ≡ true
      → not (is_below bytes reading place) ≡ true
  not_below reading place has =
      grind (arith, bytes_equal (reading_at bytes place) reading, byte_keys.irreflexive reading)

  -- among entries in order none behind one with a greater reading has a reading
  none_behind : (reading : List ℕ) (place other : Place) → bytes_less reading (reading_at bytes place) ≡ true
      → rises bytes place other ≡ true → not (has_reading bytes reading other) ≡ true
  none_behind reading place other greater up = grind (arith, bytes_equal (reading_at bytes other) reading)

  -- so where the first is greater none of them has it
  pub none_greater : (reading : List ℕ) (place : Place) (places : List Place) → rise bytes (place ∷ places) ≡ true
      → bytes_less reading (reading_at bytes place) ≡ true → filter (has_reading bytes reading) (place ∷ places) ≡ []
  none_greater reading place places up greater =
      let parts = and_parts (list_all (rises bytes place) places) (rise bytes places) up in
      let behind = list_all-weaker (rises bytes place) (λ other. not (has_reading bytes reading other))
      (λ other. none_behind reading place other greater) places parts.0 in
      let none = filter_none (has_reading bytes reading) places behind in
      grind (arith, bytes_equal (reading_at bytes place) reading, byte_keys.irreflexive reading)

-- those with the least reading stand in front: behind one without it there is none
pub none_from : (bytes reading : List ℕ) (places : List Place) (i : ℕ) (d : Place) → i < length places
    → rise bytes places ≡ true → list_all (λ place. not (is_below bytes reading place)) places ≡ true
    → has_reading bytes reading (get_or places i d) ≡ false → filter (has_reading bytes reading) (drop i places) ≡ []
none_from bytes reading [] i d low up least other = absurd (omega (arith, low))
none_from bytes reading (place ∷ places) zero d low up least other =
    grind (arith, bytes_apart (reading_at bytes place) reading, none_greater bytes reading place places)
none_from bytes reading (place ∷ places) (suc i) d low up least other =
    none_from bytes reading places i d (omega (arith, low)) (grind arith) (grind arith) other
