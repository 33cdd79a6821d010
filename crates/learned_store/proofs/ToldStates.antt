-- What a record that may be written changes: the count of its book and the row of its key, or the list of its typist.
use Rattle.std.proofs.Common.{◌≡◌, ℕ, ◌≤◌, Bool, true, false, cond, not, ◌&&◌, ◌==◌, nat_le, nat_lt, subst}
use Rattle.std.proofs.Common.{Option, None, Some, List, [], ◌∷◌, find, refl, arith}
use Rattle.std.proofs.lemmas.Bool.{le-leb}
use Rattle.std.proofs.lemmas.Bool.Decides.{nat_tests}
use Rattle.std.specs.List.{filter}
use Rattle.skk_text.specs.PairsLaws.{list_all-filter, list_all-weaker}
use Rattle.ordered_lists.specs.OrderLaws.{list_all-insert_by}
use Rattle.ordered_lists.specs.Orders.{insert_by}
use Rattle.std.proofs.lemmas.Slice.Eq.{bytes_eq-Decides}
use Rattle.skk_calls.specs.declared.book.NumberedBook.{NumberedBook}
use Rattle.skk_calls.specs.declared.book_list.TypistList.{TypistList}
use Rattle.skk_calls.specs.BookLists.{same_numbers, shared_alone}
use Rattle.skk_calls.specs.Canonical.{is_good}
use Rattle.skk_calls.specs.KeyLaws.{same_key_equal, same_key_itself}
use Rattle.skk_calls.specs.Orders.{key_less}
use Rattle.skk_calls.specs.Learning.{annotated}
use Rattle.skk_calls.specs.Rows.{RowKey, Cand, Row, is_row, same_key}
use Rattle.skk_calls.specs.States.{State, row_in, book_at, book_rows, book_count, rows_of, count_of, row_at}
use Rattle.skk_calls.specs.States.{without_row, with_row, without_book, with_book, state_with}
use Rattle.skk_calls.specs.States.{list_in, listed_books, shared_books, without_list, state_listed}
use Rattle.skk_calls.specs.States.{fits_count, is_book, is_valid}
use Rattle.dict_laws.specs.AnnotatedRows.{annotated_row, annotated_good}
use Rattle.dict_laws.specs.ChangedStates.{has_key, row_in_has_key}
use Rattle.dict_laws.specs.ValidStates.{books_ascend_with_book, fits_after, fits_row_at, is_valid_changed}
use Rattle.dict_laws.specs.ValidStates.{is_valid_listed, parts_at, rows_of_ascend, rows_of_fit}
use Rattle.learn_index.specs.Records.{state_counted, state_without}
use Rattle.learned_store.specs.declared.form.PayloadForm.{PayloadForm}
use Rattle.learned_store.specs.declared.form.PayloadForm.TheVariants.{Put, Drop, SetCount, Note, SetList}
use Rattle.learned_store.specs.Gathering.{count_behind, is_counted, list_behind, row_told_of}
use Rattle.learned_store.specs.Payloads.{CountsOn, counted_by, is_sound, may_follow, state_told, takes_note}
use Rattle.learned_store.proofs.SoundForms.{list_parts, note_parts}

-- Items

-- what a test finds among what another keeps, which leaves out just what the test would find, or nothing of that
module _ {X : Type 0} (p q : X → Bool) (out : Bool) (gone : (y : X) → out ≡ true → q y ≡ true → p y ≡ false)
    (left : (y : X) → out ≡ false → q y ≡ false → p y ≡ false) where
  find_without : (ys : List X) → find p (filter q ys) ≡ cond out None (find p ys)
  find_without [] = grind arith
  find_without (y ∷ ys) = grind (arith, gone y, left y, find_without ys)

  -- and where an item was put among that
  find_put : (before : X → X → Bool) (x : X) (ys : List X) → p x ≡ out
      → find p (insert_by before x (filter q ys)) ≡ cond out (Some x) (find p ys)
  find_put before x [] is = grind arith
  find_put before x (y ∷ ys) is = grind (arith, gone y, left y, find_without ys, find_put before x ys)

-- Rows

module _ (key other : RowKey) (rows : List Row) where
  -- where the row of a key is the one looked for, it is left out, and else another row is not
  row_gone : (row : Row) → same_key key other ≡ true → not (same_key row.key key) ≡ true
      → same_key row.key other ≡ false
  row_gone row same e = grind (arith, same_key_equal key other)

  row_left : (row : Row) → same_key key other ≡ false → not (same_key row.key key) ≡ false
      → same_key row.key other ≡ false
  row_left row differs e = grind (arith, same_key_equal row.key key)

  -- the row of a key among rows without that of one
  row_without : row_in other (without_row key rows) ≡ cond (same_key key other) None (row_in other rows)
  row_without =
      find_without (λ (row : Row). same_key row.key other) (λ (row : Row). not (same_key row.key key))
      (same_key key other) row_gone row_left rows

-- and among rows with a new one
row_put : (row : Row) (other : RowKey) (rows : List Row)
    → row_in other (with_row row.key (Some row) rows) ≡ cond (same_key row.key other) (Some row) (row_in other rows)
row_put row other rows =
    find_put (λ (r : Row). same_key r.key other) (λ (r : Row). not (same_key r.key row.key))
    (same_key row.key other) (row_gone row.key other rows) (row_left row.key other rows)
    (λ (r later : Row). key_less r.key later.key) row rows refl

-- Books

module _ (state : State) (book : NumberedBook) where
  -- the state with a book in the place of that of its number
  abbrev with_it : State
  with_it = record state { books = with_book book state.books }

  book_with : (number : ℕ) → book_at with_it number ≡ cond (book.number == number) (Some book) (book_at state number)
  book_with number =
      find_put (λ (b : NumberedBook). b.number == number) (λ (b : NumberedBook). not (b.number == book.number))
      (book.number == number) (λ b same e. grind arith) (λ b differs e. grind arith)
      (λ (b later : NumberedBook). nat_lt b.number later.number) book state.books refl

  -- its count is that of the book, and others stay
  count_with : (number : ℕ) → count_of with_it number ≡ cond (book.number == number) book.count (count_of state number)
  count_with number = grind (arith, book_with number)

  -- and so are its rows
  rows_with : (number : ℕ) → rows_of with_it number ≡ cond (book.number == number) book.rows (rows_of state number)
  rows_with number = grind (arith, book_with number)

  -- a valid state is valid with a book that may be
  valid_with : is_valid state ≡ true → is_book book ≡ true → is_valid with_it ≡ true
  valid_with valid here =
      grind (
        arith,
        books_ascend_with_book book state.books,
        list_all-insert_by (λ (b later : NumberedBook). nat_lt b.number later.number) is_book book
            (without_book book.number state.books) here,
        list_all-filter is_book (λ (b : NumberedBook). not (b.number == book.number)) state.books,
      )

-- a row that may stand in a book may stand in it later
pub fits_later : (count later : ℕ) → count ≤ later → (row : Row) → fits_count count row ≡ true
    → fits_count later row ≡ true
fits_later count later most row fits = grind (arith, stamped row.stamp)
  where
    stamped : (stamp : ℕ) → (nat_le 1 stamp && nat_le stamp count) ≡ true
        → (nat_le 1 stamp && nat_le stamp later) ≡ true
    stamped stamp e = grind (arith, nat_tests)

-- a book in which a row may stand has a count
some_count : (count : ℕ) (row : Row) → fits_count count row ≡ true → nat_le 1 count ≡ true
some_count count row fits = grind (arith, between row.stamp)
  where
    between : (stamp : ℕ) → (nat_le 1 stamp && nat_le stamp count) ≡ true → nat_le 1 count ≡ true
    between stamp e = grind (arith, nat_tests)

-- a row that may be put may stand in its book
put_fits : (book count : ℕ) (row : Row) → is_sound (Put book count row) ≡ true → fits_count count row ≡ true
put_fits book count row sound = grind arith

-- a book whose count is 0 has no rows
no_rows : (state : State) (number : ℕ) → is_valid state ≡ true → count_of state number ≡ 0
    → rows_of state number ≡ []
no_rows state number valid none = by (book_at state number) refl none
  where
    by : (found : Option NumberedBook) → book_at state number ≡ found → book_count found ≡ 0 → book_rows found ≡ []
    by None is e = refl
    by (Some book) is e = absurd (grind (arith, (parts_at state number valid book is).count))

-- Records

-- the rows of its book after a record
abbrev told_rows : PayloadForm → List Row → List Row
told_rows (Put book count row) rows = with_row row.key (Some row) rows
told_rows (Drop book count key) rows = without_row key rows
told_rows (SetCount book count) rows = rows
told_rows (Note book count key cand) rows =
    with_row key (Some (annotated (row_in key rows) key cand count)) rows
told_rows (SetList typist books) rows = rows

-- the row of a key that took a note, among others
row_noted : (book count : ℕ) (own : RowKey) (cand : Cand) (key : RowKey) (rows : List Row)
    → row_in key (with_row own (Some (annotated (row_in own rows) own cand count)) rows)
    ≡ cond (same_key own key) (Some (annotated (row_in key rows) own cand count)) (row_in key rows)
row_noted book count own cand key rows =
    grind (arith, row_put (annotated (row_in own rows) own cand count) key rows, same_key_equal own key)

row_of_told : (form : PayloadForm) (key : RowKey) (rows : List Row)
    → row_in key (told_rows form rows) ≡ row_told_of form key (row_in key rows)
row_of_told (Put book count row) key rows = row_put row key rows
row_of_told (Drop book count gone) key rows = row_without gone key rows
row_of_told (SetCount book count) key rows = refl
row_of_told (Note book count own cand) key rows = row_noted book count own cand key rows
row_of_told (SetList typist books) key rows = refl

-- the book that a record counts, after it
abbrev told_book : State → ℕ → ℕ → PayloadForm → NumberedBook
told_book state book count form =
    record { number = book; count = count; rows = told_rows form (rows_of state book) }

-- after a record the count of its book is that which it tells, and others stay
pub count_told : (state : State) (form : PayloadForm) → CountsOn state (counted_by form) → (number : ℕ)
    → count_of (state_told state form) number ≡ count_behind (counted_by form) number (count_of state number)
count_told state (Put book count row) later number =
    count_with state (told_book state book count (Put book count row)) number
count_told state (Drop book count key) later number =
    grind (arith, count_with state (told_book state book count (Drop book count key)) number, later)
count_told state (SetCount book count) later number =
    grind (arith, count_with state (told_book state book count (SetCount book count)) number, later)
count_told state (Note book count key cand) later number =
    count_with state (told_book state book count (Note book count key cand)) number
count_told state (SetList typist books) later number = refl

-- and the row of a key in that book is what it says, and others stay
module _ (state : State) (book count : ℕ) (form : PayloadForm) (number : ℕ) (key : RowKey) where
  row_with : row_at (with_it state (told_book state book count form)) number key
      ≡ cond (book == number) (row_told_of form key (row_at state number key)) (row_at state number key)
  row_with =
      grind (
        arith,
        row_of_told form key (rows_of state book),
        rows_with state (told_book state book count form) number,
      )

pub row_told : (state : State) (form : PayloadForm) → CountsOn state (counted_by form) → (number : ℕ)
    → is_valid state ≡ true → (key : RowKey) → row_at (state_told state form) number key
    ≡ cond (is_counted (counted_by form) number) (row_told_of form key (row_at state number key))
    (row_at state number key)
row_told state (Put book count row) later number valid key =
    row_with state book count (Put book count row) number key
row_told state (Drop book count gone) later number valid key =
    grind (
      arith,
      row_of_told (Drop book count gone) key (rows_of state book),
      rows_with state (told_book state book count (Drop book count gone)) number,
      no_rows state number valid,
      later,
    )
row_told state (SetCount book count) later number valid key =
    grind (
      arith,
      rows_with state (told_book state book count (SetCount book count)) number,
      no_rows state number valid,
      later,
    )
row_told state (Note book count own cand) later number valid key =
    row_with state book count (Note book count own cand) number key
row_told state (SetList typist books) later number valid key = refl

-- the list of a typist where one was given a list
pub listed_then : (state : State) (own : ℕ) (books : List ℕ) (typist : ℕ)
    → shared_books (state_listed state own books) typist ≡ cond (own == typist) books (shared_books state typist)
listed_then state own books typist = by (same_numbers books shared_alone) refl
  where
    is_typist : TypistList → Bool
    is_typist list = list.typist == typist

    is_other : TypistList → Bool
    is_other list = not (list.typist == own)

    less : TypistList → TypistList → Bool
    less list other = nat_lt list.typist other.typist

    given : TypistList
    given = record { typist = own; books = books }

    gone : (list : TypistList) → (own == typist) ≡ true → is_other list ≡ true → is_typist list ≡ false
    gone list same e = grind arith

    left : (list : TypistList) → (own == typist) ≡ false → is_other list ≡ false → is_typist list ≡ false
    left list differs e = grind arith

    by : (b : Bool) → same_numbers books shared_alone ≡ b
        → listed_books (list_in typist (cond b (without_list own state.lists)
        (insert_by less given (without_list own state.lists))))
        ≡ cond (own == typist) books (shared_books state typist)
    by true same =
        grind (
          arith,
          find_without is_typist is_other (own == typist) gone left state.lists,
          (bytes_eq-Decides books shared_alone).0 same,
        )
    by false differs =
        grind (arith, find_put is_typist is_other (own == typist) gone left less given state.lists refl)

-- so after a record the list of a typist is what it says, and others stay
pub list_told : (state : State) (form : PayloadForm) (typist : ℕ)
    → shared_books (state_told state form) typist ≡ list_behind form typist (shared_books state typist)
list_told state (Put book count row) typist = refl
list_told state (Drop book count key) typist = by (count == 0)
  where
    by : (b : Bool) → shared_books (cond b state (state_with state book count key None)) typist
        ≡ shared_books state typist
    by true = refl
    by false = refl
list_told state (SetCount book count) typist = by (count == 0)
  where
    by : (b : Bool) → shared_books (cond b state (with_it state (told_book state book count (SetCount book count))))
        typist ≡ shared_books state typist
    by true = refl
    by false = refl
list_told state (Note book count key cand) typist = refl
list_told state (SetList own books) typist = listed_then state own books typist

-- a row that takes a note may stand in its book then
noted_fits : (count : ℕ) (key : RowKey) (cand : Cand) (before most : ℕ) (row : Option Row)
    → has_key key row ≡ true → fits_after most row ≡ true → is_sound (Note before count key cand) ≡ true
    → takes_note row cand count ≡ true → fits_count count (annotated row key cand count) ≡ true
noted_fits count key cand book most None has fits sound takes = cc
noted_fits count key cand book most (Some row) has fits sound takes =
    let parts = note_parts book count key cand sound in
    let same = same_key_equal row.key key has in
    let is : is_row row ≡ true = grind (arith, fits) in
    let good : is_good row ≡ true = grind (arith, fits) in
    subst (λ (k : RowKey). fits_count count (annotated (Some row) k cand count) ≡ true) same
    (grind (
      arith,
      annotated_row row cand count is parts.cand_is,
      annotated_good row cand count is parts.cand_is good takes,
      le-leb 1 count parts.some,
      le-leb count count (omega arith),
    ))

module _ (state : State) where
  -- a valid state is valid after a row was put that may stand in its book
  pub valid_put : is_valid state ≡ true → (book count : ℕ) (row : Row) → fits_count count row ≡ true
      → count_of state book ≤ count → is_valid (state_with state book count row.key (Some row)) ≡ true
  valid_put valid book count row fits later =
      is_valid_changed state book count row.key (Some row) valid (some_count count row fits)
      (le-leb (count_of state book) count later) (same_key_itself row.key) fits

  -- after a row was dropped
  valid_dropped : is_valid state ≡ true → (book count : ℕ) (key : RowKey) → count_of state book ≤ count
      → is_valid (state_without state book count key) ≡ true
  valid_dropped valid book count key later =
      grind (
        arith,
        later,
        λ (some : nat_le 1 count ≡ true) (most : nat_le (count_of state book) count ≡ true).
            is_valid_changed state book count key None valid some most refl refl,
      )

  -- and after a count was set
  pub valid_counted : is_valid state ≡ true → (book count : ℕ) → count_of state book ≤ count
      → is_valid (state_counted state book count) ≡ true
  valid_counted valid book count later =
      grind (
        arith,
        valid_with state (record { number = book; count = count; rows = rows_of state book }) valid,
        rows_of_ascend state book valid,
        list_all-weaker (fits_count (count_of state book)) (fits_count count)
            (fits_later (count_of state book) count later) (rows_of state book) (rows_of_fit state book valid),
      )

  -- the row that a note leaves may stand in its book
  pub note_fits : is_valid state ≡ true → (book count : ℕ) (key : RowKey) (cand : Cand)
      → is_sound (Note book count key cand) ≡ true → takes_note (row_at state book key) cand count ≡ true
      → fits_count count (annotated (row_at state book key) key cand count) ≡ true
  note_fits valid book count key cand sound takes =
      noted_fits count key cand book (count_of state book) (row_at state book key)
      (row_in_has_key key (rows_of state book)) (fits_row_at state book valid key) sound takes

  -- so it is valid after a record that may be written
  pub valid_told : is_valid state ≡ true → (form : PayloadForm) → is_sound form ≡ true
      → CountsOn state (counted_by form) → may_follow state form ≡ true
      → is_valid (state_told state form) ≡ true
  valid_told valid (Put book count row) sound later follows =
      valid_put valid book count row (put_fits book count row sound) later
  valid_told valid (Drop book count key) sound later follows = valid_dropped valid book count key later
  valid_told valid (SetCount book count) sound later follows = valid_counted valid book count later
  valid_told valid (Note book count key cand) sound later follows =
      valid_put valid book count (annotated (row_at state book key) key cand count)
      (note_fits valid book count key cand sound follows) later
  valid_told valid (SetList typist books) sound later follows =
      is_valid_listed typist books (list_parts typist books sound).valid state valid
