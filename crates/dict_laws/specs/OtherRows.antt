-- The rows and the books that a change of one row leaves as they were.
use Rattle.std.proofs.Common.{◌≡◌, ℕ, Bool, true, false, cond, not, ◌==◌, nat_lt, None, Some, Option, List, [], ◌∷◌}
use Rattle.std.proofs.Common.{find, ◌∙◌, ap}
use Rattle.std.proofs.lemmas.Bool.{eqb-true, not-false}
use Rattle.skk_calls.specs.declared.book.NumberedBook.{NumberedBook}
use Rattle.skk_calls.specs.KeyLaws.{same_key_equal}
use Rattle.ordered_lists.specs.Orders.{insert_by}
use Rattle.skk_calls.specs.Orders.{key_less}
use Rattle.skk_calls.specs.Rows.{RowKey, Row, same_key}
use Rattle.skk_calls.specs.States.{State, row_in, book_at, book_rows, rows_of, row_at, without_row, with_row}
use Rattle.skk_calls.specs.States.{without_book, state_with}
use Rattle.dict_laws.specs.ChangedStates.{has_key, changed_book, book_at_changed}
use Rattle.dict_laws.specs.Filtered.{find-filter}

-- by a test that an item does not pass, the same is found where it is put at its place among others
find-insert_by_other : {X : Type 0} (before : X → X → Bool) (p : X → Bool) (x : X) (xs : List X) → p x ≡ false
    → find p (insert_by before x xs) ≡ find p xs
find-insert_by_other before p x [] e = rw e
find-insert_by_other {X} before p x (y ∷ ys) e = by (before x y) (find-insert_by_other before p x ys e)
  where
    by : (b : Bool) → find p (insert_by before x ys) ≡ find p ys
        → find p (cond b (x ∷ y ∷ ys) (y ∷ insert_by before x ys)) ≡ find p (y ∷ ys)
    by true rest = rw e
    by false rest = ap (λ (found : Option X). cond (p y) (Some y) found) rest

-- a row that has a key has no other
other_key : (key other : RowKey) → same_key key other ≡ false → (row : Row) → same_key row.key key ≡ true
    → same_key row.key other ≡ false
other_key key other e row has = ap (λ (k : RowKey). same_key k other) (same_key_equal row.key key has) ∙ e

-- the rows of other keys are there without the row of a key
row_in_without : (key other : RowKey) (rows : List Row) → same_key key other ≡ false
    → row_in other (without_row key rows) ≡ row_in other rows
row_in_without key other rows e =
    find-filter (λ (row : Row). same_key row.key other) (λ (row : Row). not (same_key row.key key))
    (λ row out. other_key key other e row (not-false (same_key row.key key) out)) rows

-- the rows of other keys are what they were
row_in_other : (key other : RowKey) (row : Option Row) (rows : List Row) → same_key key other ≡ false
    → has_key key row ≡ true → row_in other (with_row key row rows) ≡ row_in other rows
row_in_other key other None rows e has = row_in_without key other rows e
row_in_other key other (Some row) rows e has =
    find-insert_by_other (λ (r s : Row). key_less r.key s.key) (λ (r : Row). same_key r.key other) row
    (without_row key rows) (other_key key other e row has)
    ∙ row_in_without key other rows e

module _ (state : State) (number count : ℕ) (key : RowKey) (row : Option Row) where
  -- the rows of other keys in the book that was changed are what they were
  pub row_at_other_key : (other : RowKey) → same_key key other ≡ false → has_key key row ≡ true
      → row_at (state_with state number count key row) number other ≡ row_at state number other
  row_at_other_key other e has =
      ap (λ (b : Option NumberedBook). row_in other (book_rows b)) (book_at_changed state number count key row)
      ∙ row_in_other key other row (rows_of state number) e has

  -- other books are what they were
  pub book_at_other : (other : ℕ) → (number == other) ≡ false
      → book_at (state_with state number count key row) other ≡ book_at state other
  book_at_other other e =
      find-insert_by_other (λ (b c : NumberedBook). nat_lt b.number c.number) (λ (b : NumberedBook). b.number == other)
      (changed_book state number count key row) (without_book number state.books) e
      ∙ find-filter (λ (b : NumberedBook). b.number == other) (λ (b : NumberedBook). not (b.number == number))
      left_out state.books
    where
      left_out : (b : NumberedBook) → not (b.number == number) ≡ false → (b.number == other) ≡ false
      left_out b out = ap (λ (n : ℕ). n == other) (eqb-true b.number number (not-false (b.number == number) out)) ∙ e
