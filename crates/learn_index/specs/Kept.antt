-- The books and lists that an index keeps, and the state that they stand for.
use Rattle.std.specs.Prelude.{◌≡◌, ◌-◌, ◌^◌, ◌==◌, ◌||◌, ◌&&◌, ℕ, Bool, true, min, nat_lt, Option, None, Some, List}
use Rattle.std.specs.Prelude.{length, map, find, Vec}
use Rattle.std.specs.List.{filter, list_all}
use Rattle.std.specs.Option.{is_some}
use Rattle.std.specs.Vec.{vec_len, vec_capacity}
use Rattle.skk_calls.specs.declared.book.NumberedBook.{NumberedBook}
use Rattle.skk_calls.specs.declared.book_list.TypistList.{TypistList}
use Rattle.skk_calls.specs.States.{State, books_ascend, is_valid}
use Rattle.skk_calls.specs.Tallies.{count_rows}
use Rattle.learn_index.specs.declared.book.LearnedBook.{LearnedBook}
use Rattle.learn_index.specs.Index.{Index, Spare}

-- a book in memory as contracts name books
abbrev pub numbered : LearnedBook → NumberedBook
numbered book = record { number = book.number; count = book.count; rows = book.rows.items }

-- the books in memory, of which some may not have changed yet, and the lists of typists
abbrev pub kept : List LearnedBook → List TypistList → State
kept books lists = record { books = map numbered books; lists = lists }

-- a book has changed
abbrev pub has_changed : NumberedBook → Bool
has_changed book = nat_lt 0 book.count

-- the books that have changed, and the lists
abbrev pub changed : State → State
changed state = record state { books = filter has_changed state.books }

-- for how many more items a vector has room
abbrev pub free_in : {X A : Type 0} → Vec X A → ℕ
free_in items = vec_capacity items - vec_len items

-- for how many more items a vector has room, and another one where there is one
abbrev pub room_in : {X Y A : Type 0} → Vec X A → Option (Vec Y A) → ℕ
room_in rows None = free_in rows
room_in rows (Some stamps) = min (free_in rows) (free_in stamps)

-- for how many changes a book has room, in its rows and in their order by stamp
abbrev pub room_of : LearnedBook → ℕ
room_of book = room_in book.rows book.by_stamp

-- the room that a book has, by its number
abbrev pub spare : LearnedBook → Spare
spare book = record { number = book.number; changes = room_of book }

-- the book of a number is in memory
abbrev pub keeps_book : Index → ℕ → Bool
keeps_book index number = is_some (find (λ spare. spare.number == number) index.spare)

-- a book has changed, or has no row
abbrev pub has_count : NumberedBook → Bool
has_count book = has_changed book || nat_lt (length book.rows) 1

-- a book has a number and as many rows as the memory of a machine can hold
abbrev pub is_held : NumberedBook → Bool
is_held book = nat_lt book.number (2 ^ 16) && nat_lt (length book.rows) (2 ^ 64)

-- what an index keeps: books that ascend, of which those that have changed are a valid state with the lists,
-- and the number of their rows
pub record IsKept (all : State) (rows : ℕ) : Type 0 where
  pub ascend : books_ascend all.books ≡ true
  pub valid : is_valid (changed all) ≡ true
  pub counts : list_all has_count all.books ≡ true
  pub held : list_all is_held all.books ≡ true
  pub counted : rows ≡ count_rows all
