-- The books, rows and counts of states, what a change makes of them, and which states are valid.
use Rattle.std.proofs.Common.{ℕ, true, false, List, [], ◌∷◌, refl, Some, None}
use Rattle.skk_calls.specs.Rows.{Row}
use Rattle.skk_calls.specs.States.{State, row_at, rows_of, count_of, state_with, is_valid}
use Rattle.skk_calls.proofs.Samples.{Gives, Gives2, plain, nasi, ari, row, book, books, a, b, c}

-- a row of a reading, with a stamp
abbrev stamped : List ℕ → ℕ → Row
stamped reading stamp = row (nasi reading) (plain a ∷ []) [] [] stamp

-- book 1 has changed twice and has a row, and book 3 has changed five times and has two
abbrev two_books : State
two_books = books (book 1 2 (stamped b 2 ∷ []) ∷ book 3 5 (stamped a 4 ∷ stamped c 5 ∷ []) ∷ [])

-- the rows and the count of a book; a book that is not there has none, and count 0
rows_of_books : Gives (rows_of two_books)
    ((0, []) ∷ (1, stamped b 2 ∷ []) ∷ (2, []) ∷ (3, stamped a 4 ∷ stamped c 5 ∷ []) ∷ [])
rows_of_books = refl

counts_of_books : Gives (count_of two_books) ((0, 0) ∷ (1, 2) ∷ (2, 0) ∷ (3, 5) ∷ [])
counts_of_books = refl

-- the row of a key in a book
rows_at_keys : Gives2 (row_at two_books) (
    (1, nasi b, Some (stamped b 2)) ∷ (1, nasi a, None) ∷ (3, nasi c, Some (stamped c 5)) ∷ (3, nasi b, None)
    ∷ (3, ari c, None) ∷ (0, nasi b, None)
    ∷ [])
rows_at_keys = refl

-- a row is put at its place in its book, in place of another of its key, and none takes it out; a new book stands at
-- its place
states_after_changes : Gives2 (λ number key. state_with two_books number 6 key (Some (row key (plain b ∷ []) [] [] 6)))
    ((
      0,
      nasi b,
      books (book 0 6 (row (nasi b) (plain b ∷ []) [] [] 6 ∷ []) ∷ book 1 2 (stamped b 2 ∷ [])
          ∷ book 3 5 (stamped a 4 ∷ stamped c 5 ∷ []) ∷ []),
    )
    ∷ (
      1,
      nasi b,
      books (book 1 6 (row (nasi b) (plain b ∷ []) [] [] 6 ∷ []) ∷ book 3 5 (stamped a 4 ∷ stamped c 5 ∷ []) ∷ []),
    )
    ∷ (
      2,
      nasi b,
      books (book 1 2 (stamped b 2 ∷ []) ∷ book 2 6 (row (nasi b) (plain b ∷ []) [] [] 6 ∷ [])
          ∷ book 3 5 (stamped a 4 ∷ stamped c 5 ∷ []) ∷ []),
    )
    ∷ (
      3,
      nasi b,
      books (book 1 2 (stamped b 2 ∷ [])
          ∷ book 3 6 (stamped a 4 ∷ row (nasi b) (plain b ∷ []) [] [] 6 ∷ stamped c 5 ∷ []) ∷ []),
    )
    ∷ (
      3,
      nasi a,
      books (book 1 2 (stamped b 2 ∷ []) ∷ book 3 6 (row (nasi a) (plain b ∷ []) [] [] 6 ∷ stamped c 5 ∷ []) ∷ []),
    )
    ∷ (
      3,
      ari a,
      books (book 1 2 (stamped b 2 ∷ [])
          ∷ book 3 6 (stamped a 4 ∷ stamped c 5 ∷ row (ari a) (plain b ∷ []) [] [] 6 ∷ []) ∷ []),
    )
    ∷ (
      4,
      nasi b,
      books (book 1 2 (stamped b 2 ∷ []) ∷ book 3 5 (stamped a 4 ∷ stamped c 5 ∷ [])
          ∷ book 4 6 (row (nasi b) (plain b ∷ []) [] [] 6 ∷ []) ∷ []),
    )
    ∷ [])
unfolding lib.Utf8.encode
states_after_changes = refl

states_without_rows : Gives (λ key. state_with two_books 3 5 key None) (
    (nasi a, books (book 1 2 (stamped b 2 ∷ []) ∷ book 3 5 (stamped c 5 ∷ []) ∷ []))
    ∷ (nasi b, two_books)
    ∷ (nasi c, books (book 1 2 (stamped b 2 ∷ []) ∷ book 3 5 (stamped a 4 ∷ []) ∷ []))
    ∷ [])
states_without_rows = refl

-- a valid state has ascending books that have changed, and in them ascending rows that are valid and good, with stamps
-- from 1 to the book's count
valid_states : Gives (λ all. is_valid (books all)) (
    ([], true) ∷ (book 1 2 (stamped b 2 ∷ []) ∷ book 3 5 (stamped a 4 ∷ stamped c 5 ∷ []) ∷ [], true)
    ∷ (book 0 1 [] ∷ [], true) ∷ (book 0 0 [] ∷ [], false)
    ∷ (book 2 1 [] ∷ book 1 1 [] ∷ [], false) ∷ (book 1 1 [] ∷ book 1 1 [] ∷ [], false)
    ∷ (book 1 1 [] ∷ book 3 1 [] ∷ book 2 1 [] ∷ [], false) ∷ (book 1 1 [] ∷ book 2 0 [] ∷ [], false)
    ∷ (book 1 5 (stamped c 5 ∷ stamped a 4 ∷ []) ∷ [], false) ∷ (book 1 5 (stamped a 5 ∷ stamped a 4 ∷ []) ∷ [], false)
    ∷ (book 1 1 (stamped a 0 ∷ []) ∷ [], false) ∷ (book 1 1 (stamped a 1 ∷ []) ∷ [], true)
    ∷ (book 1 1 (stamped a 2 ∷ []) ∷ [], false)
    ∷ (book 1 1 (row (nasi []) (plain a ∷ []) [] [] 1 ∷ []) ∷ [], false)
    ∷ (book 1 1 (row (nasi a) [] [] [] 1 ∷ []) ∷ [], false) ∷ [])
unfolding lib.Utf8.encode
valid_states = refl
