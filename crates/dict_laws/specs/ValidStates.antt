-- What the books of a valid state keep, and that it stays valid where a row that may stand in a book changes there.
use Rattle.std.proofs.Common.{◌≡◌, ℕ, Bool, true, false, not, ◌&&◌, ◌||◌, ◌==◌, nat_lt, nat_le, None, Some, Option}
use Rattle.std.proofs.Common.{List, refl, sym, subst, ap, arith, cond}
use Rattle.std.proofs.lemmas.Bool.Decides.{nat_tests}
use Rattle.std.specs.List.{list_all}
use Rattle.std.proofs.lemmas.Bool.{and_from, and_parts, not-true}
use Rattle.std.proofs.lemmas.List.MinMax.{IsStrictWeakOrder-by_number}
use Rattle.skk_text.specs.PairsLaws.{list_all-filter, list_all-weaker, all_pairs-filter}
use Rattle.skk_text.specs.FilterLaws.{list_all_found, list_all_kept}
use Rattle.skk_calls.specs.KeyLaws.{same_key_equal, same_key_other}
use Rattle.skk_calls.specs.declared.book.NumberedBook.{NumberedBook}
use Rattle.skk_calls.specs.Canonical.{is_good}
use Rattle.ordered_lists.specs.OrderLaws.{insert_ascends, list_all-insert_by, order_read}
use Rattle.ordered_lists.specs.Orders.{insert_by}
use Rattle.skk_calls.specs.OrderLaws.{key_order, keys_apart}
use Rattle.skk_calls.specs.Orders.{key_less}
use Rattle.skk_calls.specs.Rows.{RowKey, Row, same_key, is_row}
use Rattle.skk_calls.specs.States.{State, book_at, book_rows, book_count, rows_of, row_at, count_of, without_row}
use Rattle.skk_calls.specs.States.{with_row, without_book, with_book, state_with, rows_ascend, has_stamp, fits_count}
use Rattle.skk_calls.specs.BookLists.{is_book_list, same_numbers, shared_alone}
use Rattle.skk_calls.specs.declared.book_list.TypistList.{TypistList}
use Rattle.skk_calls.specs.States.{is_book, books_ascend, is_kept_list, is_valid, lists_ascend}
use Rattle.skk_calls.specs.States.{state_listed, with_list, without_list}
use Rattle.dict_laws.specs.ChangedStates.{has_key, changed_book}

-- Rows

-- rows ascend after a change
rows_ascend_with_row : (key : RowKey) (row : Option Row) (rows : List Row) → has_key key row ≡ true
    → rows_ascend rows ≡ true → rows_ascend (with_row key row rows) ≡ true
rows_ascend_with_row key None rows has ascend =
    all_pairs-filter (λ (r other : Row). key_less r.key other.key) (λ (r : Row). not (same_key r.key key)) rows ascend
rows_ascend_with_row key (Some row) rows has ascend =
    insert_ascends (λ (r other : Row). key_less r.key other.key) (order_read (λ (r : Row). r.key) key_less key_order)
    row (without_row key rows) (list_all-weaker (λ (other : Row). not (same_key other.key row.key))
    (λ (other : Row). key_less row.key other.key || key_less other.key row.key)
    (λ other e. keys_apart row.key other.key
    (same_key_other other.key row.key (not-true (same_key other.key row.key) e))) (without_row key rows)
    (subst (λ (k : RowKey). list_all (λ (other : Row). not (same_key other.key k)) (without_row key rows) ≡ true)
    (sym (same_key_equal row.key key has)) (list_all_kept (λ (other : Row). not (same_key other.key key)) rows)))
    (all_pairs-filter (λ (r other : Row). key_less r.key other.key) (λ (r : Row). not (same_key r.key key)) rows ascend)

-- a row, where there is one, may stand in a book with this count
abbrev pub fits_after : ℕ → Option Row → Bool
fits_after count None = true
fits_after count (Some row) = fits_count count row

-- a stamp up to a count is one up to a greater count
stamp_later : (stamp count later : ℕ) → nat_le count later ≡ true → (nat_le 1 stamp && nat_le stamp count) ≡ true
    → (nat_le 1 stamp && nat_le stamp later) ≡ true
stamp_later stamp count later e h = grind (arith, nat_tests)

-- a row that may stand in a book may stand in it later
fits_later : (count later : ℕ) → nat_le count later ≡ true → (row : Row) → fits_count count row ≡ true
    → fits_count later row ≡ true
fits_later count later e row fits =
    let parts = and_parts (is_row row) (is_good row && has_stamp count row) fits in
    let rest = and_parts (is_good row) (has_stamp count row) parts.1 in
    and_from (is_row row) (is_good row && has_stamp later row) parts.0
    (and_from (is_good row) (has_stamp later row) rest.0 (stamp_later row.stamp count later e rest.1))

-- rows that may stand in a book, with a row of a key that may stand in it
fits_with_row : (count : ℕ) (key : RowKey) (row : Option Row) (rows : List Row) → fits_after count row ≡ true
    → list_all (fits_count count) rows ≡ true → list_all (fits_count count) (with_row key row rows) ≡ true
fits_with_row count key None rows new all =
    list_all-filter (fits_count count) (λ (r : Row). not (same_key r.key key)) rows all
fits_with_row count key (Some row) rows new all =
    list_all-insert_by (λ (r other : Row). key_less r.key other.key) (fits_count count) row (without_row key rows) new
    (list_all-filter (fits_count count) (λ (r : Row). not (same_key r.key key)) rows all)

-- Books

-- what a book keeps
pub record BookParts (book : NumberedBook) : Type 0 where
  pub count : nat_le 1 book.count ≡ true
  pub ascend : rows_ascend book.rows ≡ true
  pub fit : list_all (fits_count book.count) book.rows ≡ true

-- a book has its parts
book_parts : (book : NumberedBook) → is_book book ≡ true → BookParts book
book_parts book e =
    let parts =
    and_parts (nat_le 1 book.count) (rows_ascend book.rows && list_all (fits_count book.count) book.rows) e in
    let rest = and_parts (rows_ascend book.rows) (list_all (fits_count book.count) book.rows) parts.1 in
    record { count = parts.0; ascend = rest.0; fit = rest.1 }

-- States

-- what a valid state keeps
pub record ValidParts (state : State) : Type 0 where
  pub ascend : books_ascend state.books ≡ true
  pub books : list_all is_book state.books ≡ true
  pub lists : (lists_ascend state.lists && list_all is_kept_list state.lists) ≡ true

pub valid_parts : (state : State) → is_valid state ≡ true → ValidParts state
valid_parts state valid =
    let kept = lists_ascend state.lists && list_all is_kept_list state.lists in
    let first = and_parts (books_ascend state.books) (list_all is_book state.books && kept) valid in
    let rest = and_parts (list_all is_book state.books) kept first.1 in
    record { ascend = first.0; books = rest.0; lists = rest.1 }

valid_from : (state : State) → ValidParts state → is_valid state ≡ true
valid_from state parts =
    let kept = lists_ascend state.lists && list_all is_kept_list state.lists in
    and_from (books_ascend state.books) (list_all is_book state.books && kept) parts.ascend
    (and_from (list_all is_book state.books) kept parts.books parts.lists)

module _ (state : State) (number : ℕ) (valid : is_valid state ≡ true) where
  -- the books of a valid state may be
  state_books : list_all is_book state.books ≡ true
  state_books = (valid_parts state valid).books

  -- each book of a valid state has its parts
  pub parts_at : (book : NumberedBook) → book_at state number ≡ Some book → BookParts book
  parts_at book e =
      book_parts book
      (list_all_found is_book (λ (b : NumberedBook). b.number == number) state.books book state_books e)

  -- the rows of a book of a valid state ascend
  pub rows_of_ascend : rows_ascend (rows_of state number) ≡ true
  rows_of_ascend = by (book_at state number) parts_at
    where
      by : (book : Option NumberedBook) → ((b : NumberedBook) → book ≡ Some b → BookParts b)
          → rows_ascend (book_rows book) ≡ true
      by None parts = refl
      by (Some book) parts = (parts book refl).ascend

  -- and may stand in it
  pub rows_of_fit : list_all (fits_count (count_of state number)) (rows_of state number) ≡ true
  rows_of_fit = by (book_at state number) parts_at
    where
      by : (book : Option NumberedBook) → ((b : NumberedBook) → book ≡ Some b → BookParts b)
          → list_all (fits_count (book_count book)) (book_rows book) ≡ true
      by None parts = refl
      by (Some book) parts = (parts book refl).fit

  -- the row of a key in a valid state may stand in its book
  pub fits_row_at : (key : RowKey) → fits_after (count_of state number) (row_at state number key) ≡ true
  fits_row_at key = by (row_at state number key) refl
    where
      by : (found : Option Row) → row_at state number key ≡ found → fits_after (count_of state number) found ≡ true
      by None found = refl
      by (Some row) found =
          list_all_found (fits_count (count_of state number)) (λ (r : Row). same_key r.key key)
          (rows_of state number) row rows_of_fit found

-- of two numbers that differ one is less
numbers_apart : (a b : ℕ) → not (b == a) ≡ true → (nat_lt a b || nat_lt b a) ≡ true
numbers_apart a b other = grind (arith, nat_tests)

-- books with one in place of that of its number ascend
pub books_ascend_with_book : (book : NumberedBook) (books : List NumberedBook) → books_ascend books ≡ true
    → books_ascend (with_book book books) ≡ true
books_ascend_with_book book books ascend =
    insert_ascends (λ (b other : NumberedBook). nat_lt b.number other.number)
    (IsStrictWeakOrder-by_number (λ (b : NumberedBook). b.number)) book (without_book book.number books)
    (list_all-weaker (λ (other : NumberedBook). not (other.number == book.number))
    (λ (other : NumberedBook). nat_lt book.number other.number || nat_lt other.number book.number)
    (λ (other : NumberedBook). numbers_apart book.number other.number) (without_book book.number books)
    (list_all_kept (λ (other : NumberedBook). not (other.number == book.number)) books))
    (all_pairs-filter (λ (b other : NumberedBook). nat_lt b.number other.number)
    (λ (other : NumberedBook). not (other.number == book.number)) books ascend)

module _ (state : State) (number count : ℕ) (key : RowKey) (row : Option Row) (valid : is_valid state ≡ true)
    (changes : nat_le 1 count ≡ true) (later : nat_le (count_of state number) count ≡ true)
    (has : has_key key row ≡ true) (fits : fits_after count row ≡ true) where
  -- the changed book may be
  changed_is_book : is_book (changed_book state number count key row) ≡ true
  changed_is_book =
      let rows = rows_of state number in
      and_from (nat_le 1 count)
      (rows_ascend (with_row key row rows) && list_all (fits_count count) (with_row key row rows))
      changes
      (and_from (rows_ascend (with_row key row rows)) (list_all (fits_count count) (with_row key row rows))
      (rows_ascend_with_row key row rows has (rows_of_ascend state number valid))
      (fits_with_row count key row rows fits
      (list_all-weaker (fits_count (count_of state number)) (fits_count count)
      (fits_later (count_of state number) count later)
      rows (rows_of_fit state number valid))))

  -- a valid state stays valid
  pub is_valid_changed : is_valid (state_with state number count key row) ≡ true
  is_valid_changed =
      let book = changed_book state number count key row in
      let parts = valid_parts state valid in
      valid_from (state_with state number count key row) (record {
        ascend = books_ascend_with_book book state.books parts.ascend;
        books =
            list_all-insert_by (λ (b other : NumberedBook). nat_lt b.number other.number) is_book book
            (without_book number state.books) changed_is_book
            (list_all-filter is_book (λ (b : NumberedBook). not (b.number == number)) state.books parts.books);
        lists = parts.lists;
      })

module _ (typist : ℕ) (books : List ℕ) (is : is_book_list books ≡ true) where
  -- the lists of a state stay what they may be where a typist is given one
  lists_with_list : (lists : List TypistList) → (lists_ascend lists && list_all is_kept_list lists) ≡ true
      → (lists_ascend (with_list typist books lists) && list_all is_kept_list (with_list typist books lists)) ≡ true
  lists_with_list lists kept = by (same_numbers books shared_alone) refl
    where
      others : List TypistList
      others = without_list typist lists

      less : TypistList → TypistList → Bool
      less list other = nat_lt list.typist other.typist

      given : TypistList
      given = record { typist = typist; books = books }

      ascend : lists_ascend others ≡ true
      ascend =
          all_pairs-filter less (λ (l : TypistList). not (l.typist == typist)) lists
          (and_parts (lists_ascend lists) (list_all is_kept_list lists) kept).0

      fit : list_all is_kept_list others ≡ true
      fit =
          list_all-filter is_kept_list (λ (l : TypistList). not (l.typist == typist)) lists
          (and_parts (lists_ascend lists) (list_all is_kept_list lists) kept).1

      by : (b : Bool) → same_numbers books shared_alone ≡ b
          → (lists_ascend (cond b others (insert_by less given others))
          && list_all is_kept_list (cond b others (insert_by less given others))) ≡ true
      by true e = and_from (lists_ascend others) (list_all is_kept_list others) ascend fit
      by false e =
          and_from (lists_ascend (insert_by less given others)) (list_all is_kept_list (insert_by less given others))
          (insert_ascends less (IsStrictWeakOrder-by_number (λ (l : TypistList). l.typist)) given others
          (list_all-weaker (λ (other : TypistList). not (other.typist == typist))
          (λ (other : TypistList). less given other || less other given)
          (λ (other : TypistList). numbers_apart typist other.typist) others
          (list_all_kept (λ (other : TypistList). not (other.typist == typist)) lists)) ascend)
          (list_all-insert_by less is_kept_list given others
          (and_from (is_book_list books) (not (same_numbers books shared_alone)) is (ap not e)) fit)

  -- a valid state stays valid where a typist is given a list
  pub is_valid_listed : (state : State) → is_valid state ≡ true → is_valid (state_listed state typist books) ≡ true
  is_valid_listed state valid =
      let parts = valid_parts state valid in
      valid_from (state_listed state typist books) (record {
        ascend = parts.ascend;
        books = parts.books;
        lists = lists_with_list state.lists parts.lists;
      })
