-- What contracts see of an index: the state that it stands for, for how many changes each book has room, and for how
-- many lists more there is room.
use Rattle.std.specs.Prelude.{ℕ, ◌==◌, Option, None, Some, List, find}
use Rattle.skk_calls.specs.States.{State}

-- how many changes of the book of a number have their room
pub record Spare : Type 0 where
  pub number : ℕ
  pub changes : ℕ

-- a state, the room of its books, and for how many lists more there is room
pub record Index : Type 0 where
  pub state : State
  pub spare : List Spare
  pub spare_lists : ℕ

-- the room that was found, none where there is none
abbrev pub changes_of : Option Spare → ℕ
changes_of None = 0
changes_of (Some spare) = spare.changes

-- for how many changes the book of a number has room
abbrev pub spare_of : Index → ℕ → ℕ
spare_of index number = changes_of (find (λ spare. spare.number == number) index.spare)
