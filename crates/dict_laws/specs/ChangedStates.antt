-- What a state holds after a change of one row of one book: the row of its key, and the count of its book.
use Rattle.std.proofs.Common.{◌≡◌, ℕ, Bool, true, false, cond, not, ◌&&◌, ◌==◌, nat_le, nat_lt, None, Some, Option}
use Rattle.std.proofs.Common.{List, [], ◌∷◌, find, refl, ◌∙◌, ap}
use Rattle.std.specs.List.{list_all}
use Rattle.std.proofs.lemmas.Bool.{and_parts, eq-eqb, not-true}
use Rattle.skk_text.specs.FilterLaws.{find_none, find_passes, list_all_kept}
use Rattle.skk_calls.specs.declared.book.NumberedBook.{NumberedBook}
use Rattle.skk_calls.specs.declared.call.Call.{Call}
use Rattle.skk_calls.specs.Canonical.{is_good}
use Rattle.skk_calls.specs.Dictionary.{after, moves, state_moved}
use Rattle.skk_calls.specs.Learning.{is_row_before}
use Rattle.ordered_lists.specs.Orders.{insert_by}
use Rattle.skk_calls.specs.Orders.{key_less}
use Rattle.skk_calls.specs.Rows.{RowKey, Row, same_key}
use Rattle.skk_calls.specs.States.{State, row_in, book_at, book_rows, book_count, rows_of, count_of, row_at}
use Rattle.skk_calls.specs.States.{without_row, with_row, without_book, state_with}

-- a call that moves a state leaves the moved one
pub after_moved : (state : State) (call : Call) → moves state call ≡ true → after state call ≡ state_moved state call
after_moved state call e = rw e

-- a number is itself
pub number_itself : (n : ℕ) → (n == n) ≡ true
number_itself n = eq-eqb n n refl

-- an item that is put at its place among others is found by a test that it alone passes
find-insert_by : {X : Type 0} (before : X → X → Bool) (p : X → Bool) (x : X) (xs : List X) → p x ≡ true
    → list_all (λ y. not (p y)) xs ≡ true → find p (insert_by before x xs) ≡ Some x
find-insert_by before p x [] e none = rw e
find-insert_by before p x (y ∷ ys) e none =
    let parts = and_parts (not (p y)) (list_all (λ z. not (p z)) ys) none in
    by (before x y) (not-true (p y) parts.0) (find-insert_by before p x ys e parts.1)
  where
    by : (b : Bool) → p y ≡ false → find p (insert_by before x ys) ≡ Some x
        → find p (cond b (x ∷ y ∷ ys) (y ∷ insert_by before x ys)) ≡ Some x
    by true other rest = rw e
    by false other rest = rw other rest

-- Rows

-- a row, where there is one, has this key
abbrev pub has_key : RowKey → Option Row → Bool
has_key key None = true
has_key key (Some row) = same_key row.key key

-- the row of a key has it
pub row_in_has_key : (key : RowKey) (rows : List Row) → has_key key (row_in key rows) ≡ true
row_in_has_key key rows = by (row_in key rows) refl
  where
    by : (found : Option Row) → row_in key rows ≡ found → has_key key found ≡ true
    by None e = refl
    by (Some row) e = find_passes (λ (r : Row). same_key r.key key) rows row e

-- the row before a learning has its key
pub before_has_key : (key : RowKey) (stamp : ℕ) (before : Option Row) → is_row_before key stamp before ≡ true
    → has_key key before ≡ true
before_has_key key stamp None e = refl
before_has_key key stamp (Some row) e =
    (and_parts (same_key row.key key) (is_good row && (nat_le 1 row.stamp && nat_lt row.stamp stamp)) e).0

-- the row of a key that is put among rows is found there
row_in_with_row : (key : RowKey) (row : Option Row) (rows : List Row) → has_key key row ≡ true
    → row_in key (with_row key row rows) ≡ row
row_in_with_row key None rows e =
    find_none (λ (r : Row). same_key r.key key) (without_row key rows)
    (list_all_kept (λ (r : Row). not (same_key r.key key)) rows)
row_in_with_row key (Some row) rows e =
    find-insert_by (λ (r other : Row). key_less r.key other.key) (λ (r : Row). same_key r.key key) row
    (without_row key rows) e (list_all_kept (λ (r : Row). not (same_key r.key key)) rows)

-- Books

module _ (state : State) (number count : ℕ) (key : RowKey) (row : Option Row) where
  -- the book that is changed
  abbrev pub changed_book : NumberedBook
  changed_book = record { number = number; count = count; rows = with_row key row (rows_of state number) }

  -- it is the book of its number
  pub book_at_changed : book_at (state_with state number count key row) number ≡ Some changed_book
  book_at_changed =
      find-insert_by (λ (b other : NumberedBook). nat_lt b.number other.number)
      (λ (b : NumberedBook). b.number == number) changed_book (without_book number state.books) (number_itself number)
      (list_all_kept (λ (b : NumberedBook). not (b.number == number)) state.books)

  -- the row of the key that was changed is the new one
  pub row_at_changed : has_key key row ≡ true → row_at (state_with state number count key row) number key ≡ row
  row_at_changed has =
      ap (λ (b : Option NumberedBook). row_in key (book_rows b)) book_at_changed
      ∙ row_in_with_row key row (rows_of state number) has

  -- the count of the book that was changed is the new one
  pub count_of_changed : count_of (state_with state number count key row) number ≡ count
  count_of_changed = ap book_count book_at_changed
