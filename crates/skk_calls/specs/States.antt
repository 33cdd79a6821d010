-- The state of a dictionary: numbered books of rows, and which of them typists read.
use Rattle.std.specs.Prelude.{ℕ, Bool, ◌&&◌, ◌==◌, not, nat_le, nat_lt, if◌then◌else◌, Option, None, Some, List, []}
use Rattle.std.specs.Prelude.{◌∷◌, find}
use Rattle.std.specs.List.{filter, list_all}
use Rattle.skk_text.specs.Pairs.{all_pairs}
use Rattle.skk_calls.specs.declared.book.NumberedBook.{NumberedBook}
use Rattle.skk_calls.specs.declared.book_list.TypistList.{TypistList}
use Rattle.skk_calls.specs.BookLists.{is_book_list, same_numbers, shared_alone}
use Rattle.skk_calls.specs.Canonical.{is_good}
use Rattle.skk_calls.specs.Orders.{key_less, insert_by}
use Rattle.skk_calls.specs.Rows.{RowKey, Row, same_key, is_row}

-- the state of a dictionary: books, each with its number, its count of changes and its rows; and lists of books, each
-- with its typist
pub record State : Type 0 where
  pub books : List NumberedBook
  pub lists : List TypistList

-- the state without a book and a list
abbrev pub empty_state : State
empty_state = record { books = []; lists = [] }

-- the row of a key among rows
abbrev pub row_in : RowKey → List Row → Option Row
row_in key rows = find (λ row. same_key row.key key) rows

-- the book of a number
abbrev pub book_at : State → ℕ → Option NumberedBook
book_at state number = find (λ book. book.number == number) state.books

-- the rows of a book, none where there is no book
abbrev pub book_rows : Option NumberedBook → List Row
book_rows None = []
book_rows (Some book) = book.rows

-- the count of a book, 0 where there is no book
abbrev pub book_count : Option NumberedBook → ℕ
book_count None = 0
book_count (Some book) = book.count

-- the rows of the book of a number
abbrev pub rows_of : State → ℕ → List Row
rows_of state number = book_rows (book_at state number)

-- the count of the book of a number
abbrev pub count_of : State → ℕ → ℕ
count_of state number = book_count (book_at state number)

-- the row of a key in the book of a number
abbrev pub row_at : State → ℕ → RowKey → Option Row
row_at state number key = row_in key (rows_of state number)

-- the rows without that of a key
abbrev pub without_row : RowKey → List Row → List Row
without_row key rows = filter (λ row. not (same_key row.key key)) rows

-- the rows where a key has this row, or none
abbrev pub with_row : RowKey → Option Row → List Row → List Row
with_row key None rows = without_row key rows
with_row key (Some row) rows = insert_by (λ r other. key_less r.key other.key) row (without_row key rows)

-- the books without that of a number
abbrev pub without_book : ℕ → List NumberedBook → List NumberedBook
without_book number books = filter (λ book. not (book.number == number)) books

-- the books with this one in place of that of its number
abbrev pub with_book : NumberedBook → List NumberedBook → List NumberedBook
with_book book books = insert_by (λ b other. nat_lt b.number other.number) book (without_book book.number books)

-- the state where the book of a number has this count, and a key of it has this row or none
abbrev pub state_with : State → ℕ → ℕ → RowKey → Option Row → State
state_with state number count key row =
    record state {
      books =
          with_book (record { number = number; count = count; rows = with_row key row (rows_of state number) })
          state.books;
    }

-- the list of a typist among lists
abbrev pub list_in : ℕ → List TypistList → Option TypistList
list_in typist lists = find (λ list. list.typist == typist) lists

-- the books of a list, the shared one alone where there is no list
abbrev pub listed_books : Option TypistList → List ℕ
listed_books None = shared_alone
listed_books (Some list) = list.books

-- the list of books of a typist
abbrev pub shared_books : State → ℕ → List ℕ
shared_books state typist = listed_books (list_in typist state.lists)

-- the books that a typist reads, in order: the typist's own, and the others of the typist's list
abbrev pub books_read : State → ℕ → List ℕ
books_read state typist = typist ∷ filter (λ number. not (number == typist)) (shared_books state typist)

-- the lists without that of a typist
abbrev pub without_list : ℕ → List TypistList → List TypistList
without_list typist lists = filter (λ list. not (list.typist == typist)) lists

-- the lists where that of a typist has these books: none is kept of the shared book alone
abbrev pub with_list : ℕ → List ℕ → List TypistList → List TypistList
with_list typist books lists =
    if same_numbers books shared_alone then without_list typist lists
    else insert_by (λ list other. nat_lt list.typist other.typist) (record { typist = typist; books = books })
    (without_list typist lists)

-- the state where a typist has this list of books
abbrev pub state_listed : State → ℕ → List ℕ → State
state_listed state typist books = record state { lists = with_list typist books state.lists }

-- rows ascend by their keys
abbrev pub rows_ascend : List Row → Bool
rows_ascend rows = all_pairs (λ row other. key_less row.key other.key) rows

-- a row's stamp is from 1 to the count of its book
abbrev pub has_stamp : ℕ → Row → Bool
has_stamp count row = nat_le 1 row.stamp && nat_le row.stamp count

-- a row may stand in a book of this count: it is a good row and has its stamp
abbrev pub fits_count : ℕ → Row → Bool
fits_count count row = is_row row && (is_good row && has_stamp count row)

-- a book has changed, its rows ascend, and each may stand in it
abbrev pub is_book : NumberedBook → Bool
is_book book = nat_le 1 book.count && (rows_ascend book.rows && list_all (fits_count book.count) book.rows)

-- books ascend by their numbers
abbrev pub books_ascend : List NumberedBook → Bool
books_ascend books = all_pairs (λ book other. nat_lt book.number other.number) books

-- lists ascend by their typists
abbrev pub lists_ascend : List TypistList → Bool
lists_ascend lists = all_pairs (λ list other. nat_lt list.typist other.typist) lists

-- a typist's list is kept: it is a list of books, and another than that of the shared book alone
abbrev pub is_kept_list : TypistList → Bool
is_kept_list list = is_book_list list.books && not (same_numbers list.books shared_alone)

-- a state is one that may be: its books ascend, and each of them may be; its lists ascend, and each of them is kept
abbrev pub is_valid : State → Bool
is_valid state =
    books_ascend state.books && (list_all is_book state.books
    && (lists_ascend state.lists && list_all is_kept_list state.lists))
