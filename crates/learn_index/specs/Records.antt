-- The states that are rebuilt from what was written of them.
use Rattle.std.specs.Prelude.{ℕ, ◌==◌, if◌then◌else◌, None}
use Rattle.skk_calls.specs.Rows.{RowKey}
use Rattle.skk_calls.specs.States.{State, rows_of, state_with, with_book}

-- the state where the book of a number has this count. One whose count is 0 is not there
abbrev pub state_counted : State → ℕ → ℕ → State
state_counted state number count =
    if count == 0
    then state
    else record state {
      books = with_book (record { number = number; count = count; rows = rows_of state number }) state.books;
    }

-- the state where the book of a number has this count, and no row of a key
abbrev pub state_without : State → ℕ → ℕ → RowKey → State
state_without state number count key = if count == 0 then state else state_with state number count key None
