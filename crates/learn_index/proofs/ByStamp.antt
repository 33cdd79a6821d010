-- The rows of a book in order by their stamps: what a change leaves of them, and which come first from their end.
use Rattle.std.proofs.Common.{◌≡◌, ℕ, Bool, true, false, cond, not, ◌&&◌, ◌||◌, nat_eq, nat_lt, Option, None, Some}
use Rattle.std.proofs.Common.{List, [], ◌∷◌, reverse, refl, sym, ap, ◌∙◌, subst, arith}
use Rattle.std.specs.List.{filter, list_all}
use Rattle.std.specs.Option.{ForSome, IfSome, IsSomeAnd}
use Rattle.std.proofs.lemmas.Bool.{and_parts}
use Rattle.std.proofs.lemmas.Bool.Decides.{nat_tests}
use Rattle.skk_text.specs.FilterLaws.{filter_all, find_passes, list_all_kept, none_found}
use Rattle.skk_text.specs.PairsLaws.{all_pairs-filter, list_all-weaker, pairs_weaker}
use Rattle.ordered_lists.specs.OrderLaws.{apart, filter_sort, item_order, items_apart, items_ascend, less_differs}
use Rattle.ordered_lists.specs.OrderLaws.{list_all-sort_by}
use Rattle.ordered_lists.specs.Orders.{ascend, before, differ, insert_by, sort_by}
use Rattle.skk_calls.specs.declared.part.Part.TheVariants.{Nasi}
use Rattle.skk_calls.specs.Completions.{completes}
use Rattle.skk_calls.specs.KeyLaws.{same_key_equal, same_key_itself, same_key_other, same_part_equal}
use Rattle.skk_calls.specs.OrderLaws.{row_keys}
use Rattle.skk_calls.specs.Orders.{is_newer, key_less, less_by_part, text_less}
use Rattle.skk_calls.specs.Rows.{RowKey, Row, same_key, same_part, keys_differ}
use Rattle.skk_calls.specs.States.{row_in, rows_ascend, with_row, without_row}
use Rattle.learn_index.specs.Ages.{age, age_keys, left_of, oldest_first, same_age}
use Rattle.learn_index.proofs.Books.{ascending_differ}
use Rattle.learn_index.proofs.TurnedOrders.{filter-reverse, sort_insert, sort_turned}

-- Ages of rows

-- rows that ascend by their keys have ages that differ
pub ages_differ : (rows : List Row) → rows_ascend rows ≡ true → differ age age_keys rows ≡ true
ages_differ rows ascending =
    pairs_weaker (λ row other. key_less row.key other.key) (λ row other. not (same_age (age row) (age other)))
    (λ row other e. apart_by_key row other (less_differs row_keys row.key other.key e)) rows ascending
  where
    apart_by_key : (row other : Row) → same_key row.key other.key ≡ false
        → not (nat_eq row.stamp other.stamp && same_key row.key other.key) ≡ true
    apart_by_key row other e = grind arith

-- so in order by them they ascend
pub oldest_ascend : (rows stamps : List Row) → rows_ascend rows ≡ true → stamps ≡ oldest_first rows
    → ascend age age_keys stamps ≡ true
oldest_ascend rows stamps ascending is =
    ap (ascend age age_keys) is ∙ items_ascend age age_keys rows (ages_differ rows ascending)

-- Rows that go

-- no other row has the key of one
none_other : (key : RowKey) (row : Row) (rows : List Row) → same_key row.key key ≡ true
    → list_all (λ other. not (same_key row.key other.key)) rows ≡ true
    → list_all (λ other. not (same_key other.key key)) rows ≡ true
none_other key row [] own none = refl
none_other key row (other ∷ rows) own none =
    grind (arith, same_key_equal row.key key, same_key_other key other.key, none_other key row rows)

-- of rows of which none has its key a row of that age leaves out none, no more than its key does
none_go : (key : RowKey) (old : Row) (rows : List Row) → same_key old.key key ≡ true
    → list_all (λ row. not (same_key row.key key)) rows ≡ true
    → filter (λ row. not (same_age (age row) (age old))) rows ≡ without_row key rows
none_go key old [] own none = refl
none_go key old (row ∷ rows) own none =
    grind (arith, same_key_equal old.key key, none_go key old rows)

-- a row has its own age
own_same : (row : Row) → same_age (age row) (age row) ≡ true
own_same row = grind (arith, nat_tests, same_key_itself row.key)

-- and not that of a row of another key
other_age : (key : RowKey) (row old : Row) → same_key old.key key ≡ true → same_key row.key key ≡ false
    → same_age (age row) (age old) ≡ false
other_age key row old own other = grind (arith, same_key_equal old.key key)

-- the row that a key has goes by its age as by its key
goes : (key : RowKey) (old : Row) (rows : List Row) → row_in key rows ≡ Some old → keys_differ rows ≡ true
    → filter (λ row. not (same_age (age row) (age old))) rows ≡ without_row key rows
goes key old [] found differs = cc
goes key old (row ∷ rows) found differs =
    by (same_key row.key key) refl
    (λ later. goes key old rows later
    (and_parts (list_all (λ (r : Row). not (same_key row.key r.key)) rows) _ differs).1)
  where
    by : (b : Bool) → same_key row.key key ≡ b
        → (row_in key rows ≡ Some old
        → filter (λ r. not (same_age (age r) (age old))) rows ≡ without_row key rows)
        → filter (λ r. not (same_age (age r) (age old))) (row ∷ rows) ≡ without_row key (row ∷ rows)
    by true own rest =
        let kept = filter (λ (r : Row). not (same_age (age r) (age old))) rows in
        let same : Some row ≡ Some old = sym (ap (λ b. cond b (Some row) (row_in key rows)) own) ∙ found in
        let one : row ≡ old = cc in
        let gone = ap (λ (r : Row). same_age (age row) (age r)) (sym one) ∙ own_same row in
        ap (λ b. cond (not b) (row ∷ kept) kept) gone
        ∙ none_go key old rows (ap (λ (r : Row). same_key r.key key) (sym one) ∙ own)
        (none_other key row rows own
        (and_parts (list_all (λ (r : Row). not (same_key row.key r.key)) rows) _ differs).0)
        ∙ sym (ap (λ b. cond (not b) (row ∷ without_row key rows) (without_row key rows)) own)
    by false other rest =
        let kept = filter (λ (r : Row). not (same_age (age r) (age old))) rows in
        let later : row_in key rows ≡ Some old = sym (ap (λ b. cond b (Some row) (row_in key rows)) other) ∙ found in
        let stays = other_age key row old (find_passes (λ (r : Row). same_key r.key key) rows old later) other in
        ap (λ b. cond (not b) (row ∷ kept) kept) stays
        ∙ ap (λ rs. row ∷ rs) (rest later)
        ∙ sym (ap (λ b. cond (not b) (row ∷ without_row key rows) (without_row key rows)) other)

-- what a change of a key leaves of the rows in order by their stamps
pub left_in_order : (rows stamps : List Row) (key : RowKey) (old : Option Row) → rows_ascend rows ≡ true
    → stamps ≡ oldest_first rows → old ≡ row_in key rows → left_of old stamps ≡ oldest_first (without_row key rows)
left_in_order rows stamps key None ascending is found =
    is ∙ ap oldest_first (sym (filter_all (λ row. not (same_key row.key key)) rows
    (none_found (λ row. same_key row.key key) rows (sym found))))
left_in_order rows stamps key (Some old) ascending is found =
    ap (filter (λ row. not (same_age (age row) (age old)))) is
    ∙ filter_sort (before age age_keys) (item_order age age_keys) (λ row. not (same_age (age row) (age old))) rows
    (items_apart age age_keys rows (ages_differ rows ascending))
    ∙ ap oldest_first (goes key old rows (sym found) (ascending_differ rows ascending))

-- Rows that come

-- among rows without that of its key a row has an age of its own
own_age : (row : Row) (rows : List Row)
    → list_all (λ other. not (same_age (age other) (age row))) (without_row row.key rows) ≡ true
own_age row rows =
    list_all-weaker (λ other. not (same_key other.key row.key)) (λ other. not (same_age (age other) (age row)))
    (λ other e. grind arith) (without_row row.key rows) (list_all_kept (λ other. not (same_key other.key row.key)) rows)

module _ (rows stamps : List Row) (row : Row) (left : stamps ≡ oldest_first (without_row row.key rows)) where
  -- also where these are in order by their stamps
  pub new_in_order : list_all (λ other. not (same_age (age other) (age row))) stamps ≡ true
  new_in_order =
      ap (list_all (λ other. not (same_age (age other) (age row)))) left
      ∙ list_all-sort_by (before age age_keys) (λ other. not (same_age (age other) (age row)))
      (without_row row.key rows) (own_age row rows)

  -- with it at its place they are those of the book
  pub put_in_order : insert_by (before age age_keys) row stamps ≡ oldest_first (with_row row.key (Some row) rows)
  put_in_order =
      ap (insert_by (before age age_keys) row) left
      ∙ sym (sort_insert (before age age_keys) (item_order age age_keys) (λ r other. key_less r.key other.key) row
      (without_row row.key rows)
      (list_all-weaker (λ other. not (same_age (age other) (age row))) (apart (before age age_keys) row)
      (λ other e. one_less other e) (without_row row.key rows) (own_age row rows)))
    where
      one_less : (other : Row) → not (same_age (age other) (age row)) ≡ true
          → apart (before age age_keys) row other ≡ true
      one_less other e = grind (arith, age_keys.apart (age other) (age row))

  pub put_ascends : rows_ascend rows ≡ true → ascend age age_keys stamps ≡ true
  put_ascends ascending =
      oldest_ascend (without_row row.key rows) stamps
      (all_pairs-filter (λ r other. key_less r.key other.key) (λ r. not (same_key r.key row.key)) rows ascending) left

-- rows without one still ascend
pub left_ascends : (gone : Option Row) (stamps : List Row) → ascend age age_keys stamps ≡ true
    → ascend age age_keys (left_of gone stamps) ≡ true
left_ascends None stamps ascending = ascending
left_ascends (Some old) stamps ascending =
    all_pairs-filter (before age age_keys) (λ row. not (same_age (age row) (age old))) stamps ascending

module _ (rows stamps : List Row) (row : Row) (old shared : Option Row) (ascending : rows_ascend rows ≡ true)
    (is : stamps ≡ oldest_first rows) (found : old ≡ row_in row.key rows)
    (same : IfSome shared (λ kept. kept ≡ row)) where
  -- a row that is shared has an age of its own among those that stay
  pub shared_new : ForSome shared
      (λ r. list_all (λ other. not (same_age (age other) (age r))) (left_of old stamps) ≡ true)
  shared_new r some =
      subst (λ (k : Row). list_all (λ other. not (same_age (age other) (age k))) (left_of old stamps) ≡ true)
      (sym (subst (λ (o : Option Row). IfSome o (λ kept. kept ≡ row)) some same))
      (new_in_order rows (left_of old stamps) row (left_in_order rows stamps row.key old ascending is found))

  -- with it at its place they are the rows of the book
  pub exchanged_in_order : (after : List Row)
      → IsSomeAnd shared (λ r. after ≡ insert_by (before age age_keys) r (left_of old stamps))
      → after ≡ oldest_first (with_row row.key (Some row) rows)
  exchanged_in_order after come = by shared same come
    where
      by : (o : Option Row) → IfSome o (λ kept. kept ≡ row)
          → IsSomeAnd o (λ r. after ≡ insert_by (before age age_keys) r (left_of old stamps))
          → after ≡ oldest_first (with_row row.key (Some row) rows)
      by None e f = absurd f
      by (Some r) e f =
          f ∙ ap (λ (k : Row). insert_by (before age age_keys) k (left_of old stamps)) e
          ∙ put_in_order rows (left_of old stamps) row (left_in_order rows stamps row.key old ascending is found)

-- From the end

-- keys without okurigana are in the order of their readings
plain_less : (key other : RowKey) → same_part key.part Nasi ≡ true → same_part other.part Nasi ≡ true
    → key_less key other ≡ text_less key.reading other.reading
plain_less key other e f =
    ap (λ part. less_by_part part other.part (text_less key.reading other.reading)) (same_part_equal key.part Nasi e)
    ∙ ap (λ part. less_by_part Nasi part (text_less key.reading other.reading)) (same_part_equal other.part Nasi f)

-- of rows that complete a prefix the newer one is the one that is not older
newer_turned : (prefix : List ℕ) (row other : Row) → completes prefix row ≡ true → completes prefix other ≡ true
    → is_newer row other ≡ before age age_keys other row
newer_turned prefix row other e f =
    ap (λ b. nat_lt other.stamp row.stamp || (nat_eq row.stamp other.stamp && b))
    (sym (plain_less row.key other.key (and_parts (same_part row.key.part Nasi) _ e).0
    (and_parts (same_part other.key.part Nasi) _ f).0))

-- those that complete a prefix come the newest first
pub newest_from_end : (prefix : List ℕ) (rows stamps : List Row) → rows_ascend rows ≡ true → stamps ≡ oldest_first rows
    → filter (completes prefix) (reverse stamps) ≡ sort_by is_newer (filter (completes prefix) rows)
newest_from_end prefix rows stamps ascending is =
    ap (λ those. filter (completes prefix) (reverse those)) is
    ∙ filter-reverse (completes prefix) (oldest_first rows)
    ∙ ap reverse (filter_sort (before age age_keys) (item_order age age_keys) (completes prefix) rows
    (items_apart age age_keys rows (ages_differ rows ascending)))
    ∙ sym (sort_turned (before age age_keys) (item_order age age_keys) is_newer (completes prefix)
    (newer_turned prefix) (filter (completes prefix) rows) (list_all_kept (completes prefix) rows)
    (all_pairs-filter (apart (before age age_keys)) (completes prefix) rows
    (items_apart age age_keys rows (ages_differ rows ascending))))
