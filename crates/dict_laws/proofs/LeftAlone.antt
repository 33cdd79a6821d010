-- A call leaves the rows alone that it does not speak of.
use Rattle.std.proofs.Common.{◌≡◌, ℕ, ◌+◌, ◌++◌, Bool, true, false, ◌&&◌, ◌==◌, Some, Option, List, refl, sym, ◌∙◌, ap}
use Rattle.std.proofs.Common.{get_or}
use Rattle.std.specs.List.{filter_map}
use Rattle.std.proofs.lemmas.Bool.{and_parts, eqb-true}
use Rattle.skk_calls.specs.KeyLaws.{same_key_itself}
use Rattle.skk_calls.specs.declared.book.NumberedBook.{NumberedBook}
use Rattle.skk_calls.specs.declared.call.Call.{Call}
use Rattle.skk_calls.specs.declared.call.Call.TheVariants.{Lookup, Complete, Learn, Purge, Annotate, Share, Unlearn}
use Rattle.skk_calls.specs.Dictionary.{after, moves, state_moved, is_call, is_row_or_none, is_share, speaks_of}
use Rattle.skk_calls.specs.Found.{found, merged}
use Rattle.skk_calls.specs.Learning.{learnt, purged, annotated, unlearnt, is_valid_learned}
use Rattle.skk_calls.specs.Rows.{RowKey, Row, same_key, is_row_key}
use Rattle.skk_calls.specs.States.{State, books_read, row_in, book_rows, book_count, row_at, count_of, state_with}
use Rattle.dict_laws.specs.ChangedStates.{after_moved, before_has_key, has_key}
use Rattle.dict_laws.specs.OtherRows.{row_at_other_key, book_at_other}
use Rattle.dict_laws.specs.Filtered.{filter_map_alike}
use Rattle.dict_laws.proofs.KeptLists.{lists_after}
use Rattle.dict_laws.proofs.TakenBack.{after_unmoved}

-- of two parts of a test that fails, the second fails where the first does not
second_fails : (a b : Bool) → (a && b) ≡ false → a ≡ true → b ≡ false
second_fails true b e f = e
second_fails false b e f = cc

-- of two parts of a test that fails, the first fails where the second does not
first_fails : (a b : Bool) → (a && b) ≡ false → b ≡ true → a ≡ false
first_fails true b e f = cc
first_fails false b e f = refl

module _ (state : State) (number count : ℕ) (key : RowKey) (row : Option Row) (book : ℕ) where
  -- a row of another key, or in another book, is what it was
  other_row : (other : RowKey) → has_key key row ≡ true → (number == book && same_key key other) ≡ false
      → row_at (state_with state number count key row) book other ≡ row_at state book other
  other_row other has e = by (number == book) refl
    where
      by : (b : Bool) → (number == book) ≡ b
          → row_at (state_with state number count key row) book other ≡ row_at state book other
      by true f =
          let same : number ≡ book = eqb-true number book f in
          let unlike : same_key key other ≡ false = second_fails (number == book) (same_key key other) e f in
          ap (λ (n : ℕ). row_at (state_with state number count key row) n other) (sym same)
          ∙ row_at_other_key state number count key row other unlike has
          ∙ ap (λ (n : ℕ). row_at state n other) same
      by false f =
          ap (λ (b : Option NumberedBook). row_in other (book_rows b)) (book_at_other state number count key row book f)

  -- the count of another book is what it was
  other_count : (number == book && same_key key key) ≡ false
      → count_of (state_with state number count key row) book ≡ count_of state book
  other_count e =
      ap book_count (book_at_other state number count key row book
      (first_fails (number == book) (same_key key key) e (same_key_itself key)))

-- a call that is made leaves the row alone
moved_leaves : (state : State) (call : Call) (book : ℕ) (other : RowKey) → is_call call ≡ true
    → speaks_of call book other ≡ false → row_at (state_moved state call) book other ≡ row_at state book other
moved_leaves state (Lookup who key okuri) book other typed e = refl
moved_leaves state (Complete who prefix) book other typed e = refl
moved_leaves state (Learn number key okuri cand) book other typed e =
    let stamp = count_of state number + 1 in
    other_row state number stamp key (Some (learnt (row_at state number key) key okuri cand stamp)) book other
    (same_key_itself key) e
moved_leaves state (Purge number key word) book other typed e =
    let stamp = count_of state number + 1 in
    other_row state number stamp key (Some (purged (row_at state number key) key word stamp)) book other
    (same_key_itself key) e
moved_leaves state (Annotate number key cand) book other typed e =
    let stamp = count_of state number + 1 in
    other_row state number stamp key (Some (annotated (row_at state number key) key cand stamp)) book other
    (same_key_itself key) e
moved_leaves state (Share who books) book other typed e = refl
moved_leaves state (Unlearn learned) book other typed e =
    other_row state learned.book (count_of state learned.book) learned.key (unlearnt learned) book other
    (before_has_key learned.key learned.stamp learned.before
    (and_parts (is_valid_learned learned) (is_row_or_none learned.before)
    (and_parts (is_row_key learned.key) (is_valid_learned learned && is_row_or_none learned.before) typed).1).0)
    e

-- so does every call
pub leaves_alone : (state : State) (call : Call) (book : ℕ) (other : RowKey) → is_call call ≡ true
    → speaks_of call book other ≡ false → row_at (after state call) book other ≡ row_at state book other
leaves_alone state call book other typed e = by (moves state call) refl
  where
    by : (b : Bool) → moves state call ≡ b → row_at (after state call) book other ≡ row_at state book other
    by true f =
        ap (λ (s : State). row_at s book other) (after_moved state call f) ∙ moved_leaves state call book other typed e
    by false f = ap (λ (s : State). row_at s book other) (after_unmoved state call f)

-- and what is found of a key of which it speaks no row
pub leaves_found : (files : List (List Row)) (state : State) (call : Call) (who : ℕ) (key : RowKey)
    (okuri : Option (List ℕ)) → is_call call ≡ true → is_share call ≡ false
    → ((book : ℕ) → speaks_of call book key ≡ false)
    → found files (after state call) who key okuri ≡ found files state who key okuri
leaves_found files state call who key okuri typed lists silent =
    ap (λ own. merged (own ++ filter_map (row_in key) files) okuri)
    (ap (λ l. filter_map (λ number. row_at (after state call) number key)
    (books_read (record state { lists = l }) who)) (lists_after state call lists)
    ∙ filter_map_alike (λ number. row_at (after state call) number key) (λ number. row_at state number key)
    (books_read state who) (λ k d lt. leaves_alone state call (get_or (books_read state who) k d) key typed
    (silent (get_or (books_read state who) k d))))

-- a call that is made leaves the count of a book of which it speaks no row
moved_counts : (state : State) (call : Call) (book : ℕ) → ((key : RowKey) → speaks_of call book key ≡ false)
    → count_of (state_moved state call) book ≡ count_of state book
moved_counts state (Lookup who key okuri) book silent = refl
moved_counts state (Complete who prefix) book silent = refl
moved_counts state (Learn number key okuri cand) book silent =
    let stamp = count_of state number + 1 in
    other_count state number stamp key (Some (learnt (row_at state number key) key okuri cand stamp)) book (silent key)
moved_counts state (Purge number key word) book silent =
    let stamp = count_of state number + 1 in
    other_count state number stamp key (Some (purged (row_at state number key) key word stamp)) book (silent key)
moved_counts state (Annotate number key cand) book silent =
    let stamp = count_of state number + 1 in
    other_count state number stamp key (Some (annotated (row_at state number key) key cand stamp)) book (silent key)
moved_counts state (Share who books) book silent = refl
moved_counts state (Unlearn learned) book silent =
    other_count state learned.book (count_of state learned.book) learned.key (unlearnt learned) book
    (silent learned.key)

-- so does every call
pub leaves_count : (state : State) (call : Call) (book : ℕ) → ((key : RowKey) → speaks_of call book key ≡ false)
    → count_of (after state call) book ≡ count_of state book
leaves_count state call book silent = by (moves state call) refl
  where
    by : (b : Bool) → moves state call ≡ b → count_of (after state call) book ≡ count_of state book
    by true f = ap (λ (s : State). count_of s book) (after_moved state call f) ∙ moved_counts state call book silent
    by false f = ap (λ (s : State). count_of s book) (after_unmoved state call f)
