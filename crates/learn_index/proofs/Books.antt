-- The books that an index keeps, and the state of those that have changed.
use Rattle.std.proofs.Common.{◌≡◌, ◌==◌, ℕ, ◌+◌, ◌*◌, ◌^◌, ◌≤◌, Bool, true, false, not, nat_lt, nat_le}
use Rattle.std.proofs.Common.{Option, None, Some, List, [], ◌∷◌, length, find, refl, sym, ap, ◌∙◌, arith}
use Rattle.std.specs.Cmp.{IsStrictWeakOrder}
use Rattle.std.specs.List.{filter, list_all, sum_by}
use Rattle.std.proofs.lemmas.Bool.{and_parts, ltb-true, not_from_false}
use Rattle.std.proofs.lemmas.Bool.Decides.{nat_tests}
use Rattle.std.proofs.lemmas.List.{nil_from_length}
use Rattle.std.proofs.lemmas.List.Elements.{All-weaker}
use Rattle.std.proofs.lemmas.List.MinMax.{IsStrictWeakOrder-by_number}
use Rattle.std.proofs.lemmas.List.Sums.{AllPass-from_list_all, sum_by-cons, sum_by-le}
use Rattle.skk_text.specs.Pairs.{all_pairs}
use Rattle.skk_text.specs.PairsLaws.{list_all-filter, list_all-weaker, all_pairs-filter, pairs_weaker}
use Rattle.skk_text.specs.FilterLaws.{find_none}
use Rattle.skk_calls.specs.declared.book.NumberedBook.{NumberedBook}
use Rattle.ordered_lists.specs.OrderLaws.{insert_first, less_differs, less_trans, list_all-insert_by}
use Rattle.ordered_lists.specs.Orders.{insert_by}
use Rattle.skk_calls.specs.OrderLaws.{row_keys}
use Rattle.skk_calls.specs.Orders.{key_less}
use Rattle.skk_calls.specs.Rows.{Row, same_key, keys_differ}
use Rattle.skk_calls.specs.States.{State, book_rows, book_count, rows_of, count_of, without_book, with_book}
use Rattle.skk_calls.specs.States.{rows_ascend, books_ascend, is_valid}
use Rattle.skk_calls.specs.Tallies.{count_rows}
use Rattle.dict_laws.specs.ValidStates.{books_ascend_with_book, rows_of_ascend}
use Rattle.learn_index.specs.Kept.{has_changed, changed, has_count, is_held, IsKept}

-- the order of books
abbrev by_number : NumberedBook → NumberedBook → Bool
by_number book other = nat_lt book.number other.number

number_order : IsStrictWeakOrder by_number
number_order = IsStrictWeakOrder-by_number (λ (book : NumberedBook). book.number)

-- Filters

-- two filters, in either order
filter_swap : {X : Type 0} (p q : X → Bool) (xs : List X) → filter p (filter q xs) ≡ filter q (filter p xs)
filter_swap p q [] = refl
filter_swap p q (x ∷ xs) = grind (arith, filter_swap p q xs)

-- an item that passes, put among others that are filtered
filter_put : (p : NumberedBook → Bool) (x : NumberedBook) (xs : List NumberedBook) → p x ≡ true
    → all_pairs by_number xs ≡ true → filter p (insert_by by_number x xs) ≡ insert_by by_number x (filter p xs)
filter_put p x [] e pairs = rw e refl
filter_put p x (y ∷ ys) e pairs =
    grind (
      arith,
      filter_put p x ys e,
      λ (f : by_number x y ≡ true). list_all-weaker (by_number y) (by_number x)
          (λ z g. less_trans by_number number_order x y z f g) ys,
      list_all-filter (by_number x) p (y ∷ ys),
      insert_first by_number x (filter p (y ∷ ys)),
    )

-- Books that have changed

-- a book that has not changed has no rows
no_rows : (book : NumberedBook) → has_changed book ≡ false → has_count book ≡ true → book.rows ≡ []
no_rows book e counts =
    nil_from_length book.rows (grind (arith, nat_tests))

-- nor a count
no_count : (book : NumberedBook) → has_changed book ≡ false → book.count ≡ 0
no_count book e = grind (arith, nat_tests)

module _ {A : Type 0} (read : Option NumberedBook → A)
    (nothing : (book : NumberedBook) → has_changed book ≡ false → has_count book ≡ true → read (Some book) ≡ read None)
    (number : ℕ) where
  -- what is read of the book of a number is the same among those that have changed
  read_changed : (books : List NumberedBook) → books_ascend books ≡ true → list_all has_count books ≡ true
      → read (find (λ book. book.number == number) (filter has_changed books))
      ≡ read (find (λ book. book.number == number) books)
  read_changed [] pairs counts = refl
  read_changed (y ∷ ys) pairs counts =
      grind (arith, nothing y, read_changed ys, none_behind)
    where
      -- no other book has the number
      none_behind : (y.number == number) ≡ true → list_all (by_number y) ys ≡ true
          → find (λ book. book.number == number) (filter has_changed ys) ≡ None
      none_behind e above =
          find_none (λ book. book.number == number) (filter has_changed ys)
          (list_all-filter (λ (book : NumberedBook). not (book.number == number)) has_changed ys
          (list_all-weaker (by_number y) (λ book. not (book.number == number))
          (λ book f. greater y.number number book.number e f) ys above))
        where
          greater : (a b c : ℕ) → (a == b) ≡ true → nat_lt a c ≡ true → not (c == b) ≡ true
          greater a b c f g = grind (arith, nat_tests)

module _ (all : State) (rows : ℕ) (keeps : IsKept all rows) where
  -- the rows of a book are those of the state
  pub rows_changed : (number : ℕ) → rows_of (changed all) number ≡ rows_of all number
  rows_changed number = read_changed book_rows no_rows number all.books keeps.ascend keeps.counts

  -- and so is its count
  pub count_changed : (number : ℕ) → count_of (changed all) number ≡ count_of all number
  count_changed number =
      read_changed book_count (λ book e counts. no_count book e) number all.books keeps.ascend keeps.counts

  -- the rows of a book ascend
  pub rows_in_order : (number : ℕ) → rows_ascend (rows_of all number) ≡ true
  rows_in_order number = ap rows_ascend (sym (rows_changed number)) ∙ rows_of_ascend (changed all) number keeps.valid

  -- all rows are those of the books that have changed
  pub all_counted : count_rows (changed all) ≡ rows
  all_counted = by all.books keeps.counts ∙ sym keeps.counted
    where
      by : (books : List NumberedBook) → list_all has_count books ≡ true
          → sum_by (λ book. length book.rows) (filter has_changed books) ≡ sum_by (λ book. length book.rows) books
      by [] counts = refl
      by (y ∷ ys) counts =
          grind (
            arith,
            by ys,
            no_rows y,
            sum_by-cons (λ (book : NumberedBook). length book.rows) y (filter has_changed ys),
            sum_by-cons (λ (book : NumberedBook). length book.rows) y ys,
          )

  -- a book that has changed comes in its place
  pub book_changed : (book : NumberedBook) → has_changed book ≡ true
      → with_book book (changed all).books ≡ filter has_changed (with_book book all.books)
  book_changed book e =
      ap (insert_by by_number book) (filter_swap (λ other. not (other.number == book.number)) has_changed all.books)
      ∙ sym (filter_put has_changed book (without_book book.number all.books) e
      (all_pairs-filter by_number (λ other. not (other.number == book.number)) all.books keeps.ascend))

  -- what is kept with one book more, or in the place of that of its number
  pub kept_with : (book : NumberedBook) (count : ℕ) → has_count book ≡ true → is_held book ≡ true
      → is_valid (changed (record all { books = with_book book all.books })) ≡ true
      → count ≡ count_rows (record all { books = with_book book all.books })
      → IsKept (record all { books = with_book book all.books }) count
  kept_with book count counts held valid counted = record {
    ascend = books_ascend_with_book book all.books keeps.ascend;
    valid = valid;
    counts =
        list_all-insert_by by_number has_count book (without_book book.number all.books) counts
        (list_all-filter has_count (λ other. not (other.number == book.number)) all.books keeps.counts);
    held =
        list_all-insert_by by_number is_held book (without_book book.number all.books) held
        (list_all-filter is_held (λ other. not (other.number == book.number)) all.books keeps.held);
    counted = counted;
  }

-- How many rows there may be

-- numbers of 16 bits that ascend are few
few : (low : ℕ) (books : List NumberedBook) → books_ascend books ≡ true → list_all is_held books ≡ true
    → list_all (λ book. nat_le low book.number) books ≡ true → low ≤ 65536 → length books + low ≤ 65536
few low [] pairs held above e = omega (arith, e)
few low (y ∷ ys) pairs held above e =
    let parts = and_parts (list_all (by_number y) ys) (all_pairs by_number ys) pairs in
    let here = and_parts (is_held y) (list_all is_held ys) held in
    let number =
    ltb-true y.number (2 ^ 16) (and_parts (nat_lt y.number (2 ^ 16)) (nat_lt (length y.rows) (2 ^ 64)) here.0).0 in
    let at_least = and_parts (nat_le low y.number) (list_all (λ book. nat_le low book.number) ys) above in
    let rest =
    few (y.number + 1) ys parts.1 here.1 (list_all-weaker (by_number y) (λ book. nat_le (y.number + 1) book.number)
    (λ book f. next y.number book.number f) ys parts.0) (omega (arith, number)) in
    omega (arith, rest, leb_low at_least.0)
  where
    next : (a b : ℕ) → nat_lt a b ≡ true → nat_le (a + 1) b ≡ true
    next a b f = grind (arith, nat_tests)

    leb_low : nat_le low y.number ≡ true → low ≤ y.number
    leb_low f = grind (arith, nat_tests)

-- so all rows can be counted
pub rows_counted : (all : State) (rows : ℕ) → IsKept all rows → rows ≤ 65536 * 18446744073709551616
rows_counted all rows keeps =
    let books = all.books in
    let short = few 0 books keeps.ascend keeps.held
    (list_all-weaker is_held (λ book. nat_le 0 book.number) (λ book e. grind (arith, nat_tests)) books keeps.held)
    (omega arith) in
    let each = All-weaker (λ book. is_held book ≡ true) (λ book. length book.rows ≤ 18446744073709551616)
    (λ book e. few_rows book e) books (AllPass-from_list_all is_held books keeps.held) in
    let sum = sum_by-le (λ (book : NumberedBook). length book.rows) 18446744073709551616 books each in
    omega (arith, keeps.counted, sum, short)
  where
    few_rows : (book : NumberedBook) → is_held book ≡ true → length book.rows ≤ 18446744073709551616
    few_rows book e =
        let low = ltb-true (length book.rows) (2 ^ 64)
        (and_parts (nat_lt book.number (2 ^ 16)) (nat_lt (length book.rows) (2 ^ 64)) e).1 in
        omega (arith, low)

-- the keys of rows that ascend differ
pub ascending_differ : (rows : List Row) → rows_ascend rows ≡ true → keys_differ rows ≡ true
ascending_differ rows ascend =
    pairs_weaker (λ row other. key_less row.key other.key) (λ row other. not (same_key row.key other.key))
    (λ row other e. not_from_false (same_key row.key other.key) (less_differs row_keys row.key other.key e)) rows ascend
