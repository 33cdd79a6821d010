-- Which rows of a book complete a prefix, and in which order they come.
use Rattle.std.proofs.Common.{◌≡◌, ◌<◌, ◌≤◌, ℕ, zero, suc, Bool, true, false, ◌&&◌, ◌||◌, not, nat_eq}
use Rattle.std.proofs.Common.{nat_lt, List, []}
use Rattle.std.proofs.Common.{◌∷◌, ◌-◌, drop, get_or, length, length-drop, refl, sym, ap, ◌∙◌, arith, take}
use Rattle.std.specs.Cmp.{IsStrictWeakOrder}
use Rattle.std.specs.List.{filter, list_all, starts_with}
use Rattle.std.proofs.lemmas.Bool.{and_from, and_parts, not-true, not_from_false}
use Rattle.std.proofs.lemmas.Bool.Decides.{nat_tests}
use Rattle.std.proofs.lemmas.List.{append-nil, take_all}
use Rattle.skk_text.specs.FilterLaws.{list_all_kept}
use Rattle.skk_text.specs.Lists.{is_empty}
use Rattle.skk_text.specs.Pairs.{all_pairs}
use Rattle.skk_text.specs.PairsLaws.{all_pairs-filter, all_pairs-map, pairs_within}
use Rattle.ordered_lists.specs.OrderLaws.{all_pairs-sort_by, apart, none_behind}
use Rattle.ordered_lists.specs.Orders.{IsPlace, sort_by}
use Rattle.skk_calls.specs.declared.part.Part.TheVariants.{Nasi}
use Rattle.skk_calls.specs.Completions.{completes, goes_on_from, newest_readings, reading_of}
use Rattle.skk_calls.specs.KeyLaws.{same_equal, same_other}
use Rattle.skk_calls.specs.OrderLaws.{row_keys, text_order, texts_apart}
use Rattle.skk_calls.specs.Orders.{is_newer, key_less, plain_key, row_less, text_less}
use Rattle.skk_calls.specs.Rows.{Row, RowKey, same_part, same_text, texts_differ}
use Rattle.skk_calls.specs.States.{rows_ascend}
use Rattle.dict_complete.specs.PrefixLaws.{begins_from, goes_on_between, goes_on_greater, less_other}

-- the key of a row
abbrev pub key : Row → RowKey
key row = row.key

-- a row has no okurigana, and a reading that begins with a prefix
abbrev pub begins : List ℕ → Row → Bool
begins prefix row = same_part row.key.part Nasi && starts_with nat_eq row.key.reading prefix

-- what completes a prefix has no okurigana and goes on from it
completing_parts : (prefix : List ℕ) (row : Row) → completes prefix row ≡ true
    → (same_part row.key.part Nasi ≡ true) × (goes_on_from prefix row.key.reading ≡ true)
completing_parts prefix row e = (grind arith, grind arith)

-- what begins with a prefix, has a candidate and is another reading completes it
pub completes_begun : (prefix : List ℕ) (row : Row) → begins prefix row ≡ true
    → (not (is_empty row.cands) && not (same_text row.key.reading prefix)) ≡ completes prefix row
completes_begun prefix row e = grind arith

-- The run of rows that begin with a prefix

-- the rows from a place on are those behind it
pub all_behind : (rows : List Row) (place : ℕ) → take (length rows - place) (drop place rows) ≡ drop place rows
all_behind rows place =
    take_all (length rows - place) (drop place rows) (omega (arith, length-drop place rows))

module _ (prefix : List ℕ) where
  -- a row that is less than the prefix does not complete it
  low_fails : (row : Row) → key_less row.key (plain_key prefix) ≡ true → completes prefix row ≡ false
  low_fails row less =
      grind (
        arith,
        text_order.one_way row.key.reading prefix,
        goes_on_greater prefix row.key.reading,
      )

  -- behind a row that is not less than the prefix and does not begin with it, none completes it
  behind_fails : (row : Row) → key_less row.key (plain_key prefix) ≡ false → begins prefix row ≡ false → (other : Row)
      → row_less row other ≡ true → completes prefix other ≡ false
  behind_fails row not_low ends other above =
      grind (
        arith,
        same_equal row.key.reading prefix,
        begins_from row.key.reading prefix [],
        append-nil prefix,
        texts_apart row.key.reading prefix,
        goes_on_between prefix row.key.reading other.key.reading,
      )

  -- before the place of the prefix no row completes it
  pub completing_behind : (rows : List Row) (place : ℕ) → IsPlace key row_keys (plain_key prefix) rows place
      → place ≤ length rows → filter (completes prefix) (drop place rows) ≡ filter (completes prefix) rows
  completing_behind rows zero point le = refl
  completing_behind [] (suc place) point le = refl
  completing_behind (row ∷ rows) (suc place) point le =
      completing_behind rows place (
        λ k d low high. point.0 (suc k) d (omega arith) (omega (arith, high)),
        λ k d low high. point.1 (suc k) d (omega (arith, low)) (omega (arith, high)),
      ) (omega (arith, le))
      ∙ sym (rw (low_fails row (point.0 0 row (omega arith) (omega arith))) refl)

  -- the rows behind it ascend, and are not less
  pub behind_ascends : (rows : List Row) (place : ℕ) → rows_ascend rows ≡ true → rows_ascend (drop place rows) ≡ true
  behind_ascends rows zero ascend = ascend
  behind_ascends [] (suc place) ascend = refl
  behind_ascends (row ∷ rows) (suc place) ascend = grind (arith, behind_ascends rows place)

  pub behind_high : (rows : List Row) (place : ℕ) → IsPlace key row_keys (plain_key prefix) rows place
      → list_all (λ row. not (key_less row.key (plain_key prefix))) (drop place rows) ≡ true
  behind_high [] zero point = refl
  behind_high [] (suc place) point = refl
  behind_high (row ∷ rows) zero point =
      and_from (not (key_less row.key (plain_key prefix)))
      (list_all (λ r. not (key_less r.key (plain_key prefix))) rows)
      (not_from_false (key_less row.key (plain_key prefix)) (point.1 0 row (omega arith) (omega arith)))
      (behind_high rows zero (
        λ k d low high. absurd (omega (arith, high)),
        λ k d low high. point.1 (suc k) d (omega arith) (omega (arith, high)),
      ))
  behind_high (row ∷ rows) (suc place) point =
      behind_high rows place (
        λ k d low high. point.0 (suc k) d (omega arith) (omega (arith, high)),
        λ k d low high. point.1 (suc k) d (omega (arith, low)) (omega (arith, high)),
      )

  -- and from the first on that does not begin with the prefix, none completes it
  pub run_ends : (rows : List Row) (i : ℕ) (row : Row) → rows_ascend rows ≡ true
      → list_all (λ r. not (key_less r.key (plain_key prefix))) rows ≡ true → i < length rows
      → get_or rows i row ≡ row → begins prefix row ≡ false → filter (completes prefix) (drop i rows) ≡ []
  run_ends [] i row ascend high within is ends = absurd (omega (arith, within))
  run_ends (first ∷ rows) zero row ascend high within is ends =
      let parts = and_parts (list_all (row_less first) rows) (rows_ascend rows) ascend in
      let not_low = (and_parts (not (key_less first.key (plain_key prefix))) _ high).0 in
      rw is (none_behind row_less (completes prefix) row rows (grind arith)
      (behind_fails row (not-true (key_less row.key (plain_key prefix)) (rw (← is) not_low)) ends)
      (rw (← is) parts.0))
  run_ends (first ∷ rows) (suc i) row ascend high within is ends =
      run_ends rows i row (and_parts (list_all (row_less first) rows) (rows_ascend rows) ascend).1
      (and_parts (not (key_less first.key (plain_key prefix))) _ high).1 (omega (arith, within)) is ends

-- Age

-- a stamp is newer than another: it is greater, or equal where a test decides
abbrev newer_by : ℕ → ℕ → Bool → Bool
newer_by stamp other decided = nat_lt other stamp || (nat_eq stamp other && decided)

some_newer : (stamp other : ℕ) (decided : Bool) → (newer_by stamp other true || newer_by other stamp decided) ≡ true
some_newer stamp other true = grind (arith, nat_tests)
some_newer stamp other false = grind (arith, nat_tests)

one_newer : (stamp other : ℕ) (decided turned : Bool) → (decided ≡ true → turned ≡ false)
    → newer_by stamp other decided ≡ true → newer_by other stamp turned ≡ false
one_newer stamp other true true so e = cc (so refl)
one_newer stamp other true false so e = grind (arith, nat_tests)
one_newer stamp other false true so e = grind (arith, nat_tests)
one_newer stamp other false false so e = grind (arith, nat_tests)

none_newer : (stamp next last : ℕ) (a b c : Bool) → (a ≡ false → b ≡ false → c ≡ false)
    → newer_by stamp next a ≡ false → newer_by next last b ≡ false → newer_by stamp last c ≡ false
none_newer stamp next last a b false so e f = grind (arith, nat_tests)
none_newer stamp next last true b true so e f = grind (arith, nat_tests)
none_newer stamp next last false true true so e f = grind (arith, nat_tests)
none_newer stamp next last false false true so e f = cc (so refl refl)

-- the order by age is one
pub age_order : IsStrictWeakOrder is_newer
age_order = record {
  one_way = λ row other. one_newer row.stamp other.stamp (text_less row.key.reading other.key.reading)
      (text_less other.key.reading row.key.reading) (text_order.one_way row.key.reading other.key.reading);
  chain = λ row next last. none_newer row.stamp next.stamp last.stamp
      (text_less row.key.reading next.key.reading) (text_less next.key.reading last.key.reading)
      (text_less row.key.reading last.key.reading)
      (text_order.chain row.key.reading next.key.reading last.key.reading);
}

-- of two rows whose readings differ one is newer
apart_newer : (row other : Row) → text_less row.key.reading other.key.reading ≡ true
    → apart is_newer row other ≡ true
apart_newer row other less =
    rw less (some_newer row.stamp other.stamp (text_less other.key.reading row.key.reading))

-- Rows that complete a prefix

-- of two of them that are in order the readings are
readings_less : (prefix : List ℕ) (row other : Row) → completes prefix row ≡ true → completes prefix other ≡ true
    → row_less row other ≡ true → text_less row.key.reading other.key.reading ≡ true
readings_less prefix row other e f less = grind arith

-- one of them is always newer
pub completing_apart : (prefix : List ℕ) (rows : List Row) → rows_ascend rows ≡ true
    → all_pairs (apart is_newer) (filter (completes prefix) rows) ≡ true
completing_apart prefix rows ascend =
    pairs_within (completes prefix) row_less (apart is_newer)
    (λ row other e f less. apart_newer row other (readings_less prefix row other e f less))
    (filter (completes prefix) rows) (list_all_kept (completes prefix) rows)
    (all_pairs-filter row_less (completes prefix) rows ascend)

-- two rows have other readings
abbrev read_apart : Row → Row → Bool
read_apart row other = not (same_text (reading_of row) (reading_of other))

-- their readings differ
pub newest_differ : (prefix : List ℕ) (rows : List Row) → rows_ascend rows ≡ true
    → texts_differ (newest_readings prefix rows) ≡ true
newest_differ prefix rows ascend =
    all_pairs-map reading_of (λ text other. not (same_text text other))
    (sort_by is_newer (filter (completes prefix) rows))
    ∙ all_pairs-sort_by is_newer read_apart
    (λ row other e. ap not (same_other (reading_of other) (reading_of row)) ∙ e) (filter (completes prefix) rows)
    (pairs_within (completes prefix) row_less read_apart differ (filter (completes prefix) rows)
    (list_all_kept (completes prefix) rows) (all_pairs-filter row_less (completes prefix) rows ascend))
  where
    differ : (row other : Row) → completes prefix row ≡ true → completes prefix other ≡ true
        → row_less row other ≡ true → read_apart row other ≡ true
    differ row other e f less =
        not_from_false (same_text (reading_of row) (reading_of other))
        (less_other (reading_of row) (reading_of other) (readings_less prefix row other e f less))
