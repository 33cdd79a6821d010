-- The walk over a file as it lies.
use Rattle.std.proofs.Common.{◌≡◌, ◌∙◌, ℕ, true, false, not, ◌||◌, Option, None, Some, List, [], ◌∷◌, All, find, map}
use Rattle.std.proofs.Common.{refl, sym, ap, arith, encode_utf8_all, Bool}
use Rattle.std.specs.List.{filter, list_all}
use Rattle.std.specs.Str.{bytes_eq}
use Rattle.std.proofs.lemmas.Bool.{and_parts, both_ways, false_from_ne_true, or_right}
use Rattle.std.proofs.lemmas.List.Elements.{All-filter, All-head, All-tail}
use Rattle.std.proofs.lemmas.List.Sorted.{list_any-IsPermutation}
use Rattle.skk_text.specs.FilterLaws.{filter_within, find_none, list_all_kept}
use Rattle.skk_text.specs.PairsLaws.{all_pairs-filter}
use Rattle.ordered_lists.specs.KeyOrders.{bytes_apart, bytes_equal, bytes_less, byte_keys}
use Rattle.ordered_lists.specs.OrderLaws.{sort_moves}
use Rattle.ordered_lists.specs.Orders.{passes}
use Rattle.skk_calls.specs.declared.part.Part.{Part}
use Rattle.skk_calls.specs.declared.part.Part.TheVariants.{Nasi}
use Rattle.skk_calls.specs.Completions.{reading_of}
use Rattle.skk_calls.specs.KeyLaws.{same_equal, same_itself, same_key_equal, same_other}
use Rattle.skk_calls.specs.Orders.{plain_key, text_less}
use Rattle.skk_calls.specs.Rows.{Row, has_text, keys_differ, same_key, same_text}
use Rattle.skk_calls.specs.States.{row_in}
use Rattle.skk_calls.specs.Walks.{next_above, texts_ascend}
use Rattle.dict_files.specs.declared.place.Place.{Place}
use Rattle.dict_files.specs.FilePlaces.{IsEntry, IsPart, file_rows, first_row, has_reading, is_above, is_below}
use Rattle.dict_files.specs.FilePlaces.{reading_at, rise, rises}
use Rattle.dict_files.specs.WalkLaws.{walked_ascend}
use Rattle.dict_files.specs.Walked.{is_walked, walked_reading, walked_readings}
use Rattle.dict_files.proofs.InOrder.{none_greater}
use Rattle.dict_files.proofs.Walking.{walked_plain}

-- The readings that a walk goes over

-- a walk comes by the row of a reading
abbrev pub is_walked_at : List Row → List ℕ → Bool
is_walked_at rows reading = passes is_walked (row_in (plain_key reading) rows)

-- no other row has the reading of a row without okurigana
none_else : (row : Row) (reading : List ℕ) (rows : List Row) → row.key ≡ plain_key reading
    → list_all (λ other. not (same_key row.key other.key)) rows ≡ true
    → has_text (map reading_of (filter is_walked rows)) reading ≡ false
none_else row reading [] same differ = refl
none_else row reading (other ∷ rows) same differ = grind (arith, none_else row reading rows)

-- the readings of rows that it comes by are those of which it comes by the row
walked_there : (rows : List Row) (reading : List ℕ) → keys_differ rows ≡ true
    → has_text (map reading_of (filter is_walked rows)) reading ≡ is_walked_at rows reading
walked_there [] reading differ = refl
walked_there (row ∷ rows) reading differ =
    let same = same_key_equal row.key (plain_key reading) in
    let other = same_other row.key.reading reading in
    grind (arith, walked_there rows reading, none_else row reading rows, same, same_itself reading, other)

readings_there : (rows : List Row) (reading : List ℕ) → keys_differ rows ≡ true
    → has_text (walked_readings rows) reading ≡ is_walked_at rows reading
readings_there rows reading differ =
    let readings = map reading_of (filter is_walked rows) in
    ap (λ texts. has_text texts reading) (walked_plain rows differ)
    ∙ sym (list_any-IsPermutation (same_text reading) readings _ (sort_moves text_less readings))
    ∙ walked_there rows reading differ

-- Texts that stand in a list

-- what each passes, one that is there passes
there_passes : (test : List ℕ → Bool) (text : List ℕ) (texts : List (List ℕ)) → list_all test texts ≡ true
    → has_text texts text ≡ true → test text ≡ true
there_passes test text [] all there = cc
there_passes test text (other ∷ texts) all there =
    grind (arith, same_equal text other, there_passes test text texts)

-- and what each passes that is there, all pass
all_there : (test : List ℕ → Bool) (texts : List (List ℕ))
    → ((text : List ℕ) → has_text texts text ≡ true → test text ≡ true) → list_all test texts ≡ true
all_there test [] each = refl
all_there test (text ∷ texts) each =
    let rest = all_there test texts (λ other there. each other (or_right (same_text other text) _ there)) in
    grind (arith, each text, same_itself text)

-- of ascending texts the first that passes is the one that does, and than which none that does is less
find_least : (test : List ℕ → Bool) (text : List ℕ) (texts : List (List ℕ)) → texts_ascend texts ≡ true
    → has_text texts text ≡ true → test text ≡ true
    → ((other : List ℕ) → has_text texts other ≡ true → test other ≡ true → text_less other text ≡ false)
    → find test texts ≡ Some text
find_least test text [] ascend there passes least = cc
find_least test text (other ∷ texts) ascend there passes least =
    let parts = and_parts (list_all (text_less other) texts) (texts_ascend texts) ascend in
    let rest = λ (h : has_text texts text ≡ true). find_least test text texts parts.1 h passes
    (λ o t. least o (or_right (same_text o other) _ t)) in
    let behind = there_passes (text_less other) text texts parts.0 in
    grind (arith, rest, behind, least other, same_equal text other, same_itself other)

-- Entries

-- the row of entries with a reading has that, and their part
row-keyed : (part : Part) (bytes reading : List ℕ) (places : List Place) (row : Row) → All (IsEntry part bytes) places
    → first_row part bytes (filter (has_reading bytes reading) places) ≡ Some row
    → (row.key.part ≡ part) × (reading ≡ encode_utf8_all row.key.reading)
row-keyed part bytes reading [] row are e = cc
row-keyed part bytes reading (place ∷ places) row are e =
    let keyed = (All-head (IsEntry part bytes) place places are).keyed row in
    let rest = row-keyed part bytes reading places row (All-tail (IsEntry part bytes) place places are) in
    grind (arith, keyed, rest, bytes_equal (reading_at bytes place) reading)

-- those with a reading are the same among all with readings that are greater than some bytes
rows-kept : (bytes low text : List ℕ) (places : List Place) → bytes_less low (encode_utf8_all text) ≡ true
    → first_row Nasi bytes (filter (has_reading bytes (encode_utf8_all text)) (filter (is_above bytes low) places))
    ≡ first_row Nasi bytes (filter (has_reading bytes (encode_utf8_all text)) places)
rows-kept bytes low text places up =
    ap (first_row Nasi bytes) (filter_within (is_above bytes low) (has_reading bytes (encode_utf8_all text))
    (λ place has. grind (arith, bytes_equal (reading_at bytes place) (encode_utf8_all text))) places)

-- the first of entries in order has their least reading
pub first_least : (bytes reading : List ℕ) (place : Place) (places : List Place) → reading ≡ reading_at bytes place
    → rise bytes (place ∷ places) ≡ true
    → list_all (λ other. not (is_below bytes reading other)) (place ∷ places) ≡ true
first_least bytes reading place places is up =
    ap (λ r. list_all (λ other. not (is_below bytes r other)) (place ∷ places)) is
    ∙ grind (arith, byte_keys.irreflexive (reading_at bytes place))

-- a walk comes by no row that has no candidate
not_walked : (found : Option Row) → walked_reading found ≡ None → passes is_walked found ≡ false
not_walked found none = grind arith

-- what lies above is above a greater one too, where it is neither that one nor below it
one_answer : (above beyond below same : Bool) → (beyond ≡ true → above ≡ true) → (above ≡ true → below ≡ false)
    → (above ≡ true → same ≡ false) → (same ≡ false → (beyond || below) ≡ true) → above ≡ beyond
one_answer above beyond below same so not_below unlike apart = grind arith

-- The walk

-- among these entries the walk over a file from a reading goes on: they are those with readings greater than some
-- bytes, and of the readings that it goes over the greater ones are those that are greater than these bytes
pub record WalksOn (rows : List Row) (bytes from : List ℕ) (places : List Place) : Type 0 where
  pub differ : keys_differ rows ≡ true
  pub low : List ℕ
  pub entries : All (IsEntry Nasi bytes) places
  pub rise : rise bytes places ≡ true
  pub above : list_all (is_above bytes low) places ≡ true
  pub found : (text : List ℕ) → bytes_less low (encode_utf8_all text) ≡ true
      → first_row Nasi bytes (filter (has_reading bytes (encode_utf8_all text)) places) ≡ row_in (plain_key text) rows
  pub next : (text : List ℕ) → is_walked_at rows text ≡ true
      → text_less from text ≡ bytes_less low (encode_utf8_all text)

-- it starts behind a reading
pub walk_starts : (bytes from : List ℕ) (nasi : List Place) → IsPart Nasi bytes nasi
    → keys_differ (file_rows bytes) ≡ true
    → WalksOn (file_rows bytes) bytes from (filter (is_above bytes (encode_utf8_all from)) nasi)
walk_starts bytes from nasi part differ =
    let up = is_above bytes (encode_utf8_all from) in
    record {
      differ = differ;
      low = encode_utf8_all from;
      entries = All-filter up (IsEntry Nasi bytes) nasi part.entries;
      rise = all_pairs-filter (rises bytes) up nasi part.rise;
      above = list_all_kept up nasi;
      found = λ text greater. rows-kept bytes (encode_utf8_all from) text nasi greater ∙ part.rows text;
      next = λ text walked. refl;
    }

-- it has come to its end where no entry is left
pub walk_ended : (rows : List Row) (bytes from : List ℕ) → WalksOn rows bytes from []
    → None ≡ next_above (walked_readings rows) from
walk_ended rows bytes from on =
    sym (find_none (text_less from) (walked_readings rows)
    (all_there (λ text. not (text_less from text)) (walked_readings rows)
    (λ text there. none text (sym (readings_there rows text on.differ) ∙ there))))
  where
    none : (text : List ℕ) → is_walked_at rows text ≡ true → not (text_less from text) ≡ true
    none text walked = grind (arith, on.next text walked, on.found text)

module _ (rows : List Row) (bytes from : List ℕ) (place : Place) (later : List Place)
    (on : WalksOn rows bytes from (place ∷ later)) (reading : List ℕ) (is : reading ≡ reading_at bytes place) where
  -- the row of a reading
  abbrev row_with : List ℕ → Option Row
  row_with other = first_row Nasi bytes (filter (has_reading bytes other) (place ∷ later))

  greater : bytes_less on.low reading ≡ true
  greater = ap (bytes_less on.low) is ∙ (and_parts (is_above bytes on.low place) _ on.above).0

  -- the walk goes over no reading below the first
  none_below : (text : List ℕ) → is_walked_at rows text ≡ true → bytes_less on.low (encode_utf8_all text) ≡ true
      → bytes_less (encode_utf8_all text) reading ≡ false
  none_below text walked up =
      grind (arith, on.found text up, none_greater bytes (encode_utf8_all text) place later on.rise)

  -- it comes to that where its row has a candidate
  pub walk_comes : (found : Option Row) (next : List ℕ) → found ≡ row_with reading → Some next ≡ walked_reading found
      → Some next ≡ next_above (walked_readings rows) from
  walk_comes None next row_is reads = cc
  walk_comes (Some row) next row_is reads =
      let keyed = row-keyed Nasi bytes reading (place ∷ later) row on.entries (sym row_is) in
      let same : next ≡ row.key.reading = grind (arith, reads) in
      let up : bytes_less on.low (encode_utf8_all next) ≡ true = grind (arith, greater, keyed) in
      let walked : is_walked_at rows next ≡ true = grind (arith, on.found next up, keyed, row_is, reads) in
      sym (find_least (text_less from) next (walked_readings rows) (walked_ascend rows)
      (readings_there rows next on.differ ∙ walked) (on.next next walked ∙ up)
      (λ other there above. least other (sym (readings_there rows other on.differ) ∙ there) above keyed.1 same))
    where
      least : (other : List ℕ) → is_walked_at rows other ≡ true → text_less from other ≡ true
          → reading ≡ encode_utf8_all row.key.reading → next ≡ row.key.reading → text_less other next ≡ false
      least other walked above is_reading same = grind (arith, none_below other walked, on.next other walked)

  -- else it goes on behind it
  pub walk_next : (found : Option Row) → found ≡ row_with reading → walked_reading found ≡ None
      → WalksOn rows bytes from (filter (is_above bytes reading) later)
  walk_next found row_is none =
      let itself = byte_keys.irreflexive reading in
      let same : filter (is_above bytes reading) later ≡ filter (is_above bytes reading) (place ∷ later) =
      grind (arith, itself) in
      record {
        differ = on.differ;
        low = reading;
        entries =
            All-filter (is_above bytes reading) (IsEntry Nasi bytes) later
            (All-tail (IsEntry Nasi bytes) place later on.entries);
        rise = all_pairs-filter (rises bytes) (is_above bytes reading) later (and_parts _ (rise bytes later) on.rise).1;
        above = list_all_kept (is_above bytes reading) later;
        found = λ text up.
            ap (λ places. first_row Nasi bytes (filter (has_reading bytes (encode_utf8_all text)) places)) same
            ∙ rows-kept bytes reading text (place ∷ later) up
            ∙ on.found text (byte_keys.transitive on.low reading (encode_utf8_all text) greater up);
        next = λ text walked. on.next text walked ∙ beyond text walked (not_walked found none);
      }
    where
      beyond : (text : List ℕ) → is_walked_at rows text ≡ true → passes is_walked found ≡ false
          → bytes_less on.low (encode_utf8_all text) ≡ bytes_less reading (encode_utf8_all text)
      beyond text walked passed =
          let seen = encode_utf8_all text in
          one_answer _ _ _ _ (byte_keys.transitive on.low reading seen greater) (none_below text walked)
          (λ up. false_from_ne_true (bytes_eq reading seen) (λ e. both_ways (is_walked_at rows text)
          (ap (passes is_walked) (sym (row_is ∙ ap row_with (bytes_equal reading seen e) ∙ on.found text up)) ∙ passed)
          walked)) (bytes_apart reading seen)
