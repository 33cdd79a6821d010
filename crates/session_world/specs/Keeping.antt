-- What the type of a world keeps, and how a step of it ends.
use Rattle.std.specs.Prelude.{◌≡◌, ◌≤◌, ◌⊎◌, ℕ, true, Option, List, []}
use Rattle.std.specs.Prelude.{◌∷◌, length, slice_get}
use Rattle.std.specs.List.{All}
use Rattle.std.specs.Option.{option_and_then}
use Rattle.romaji_rules.specs.declared.rule.Rule.{Rule}
use Rattle.skk_calls.specs.declared.call.Call.{Call}
use Rattle.skk_calls.specs.declared.entry.Entry.{Entry}
use Rattle.skk_calls.specs.Dictionary.{is_fit}
use Rattle.skk_calls.specs.States.{State, empty_state}
use Rattle.session_world.specs.Seats.{asked_in, may_be_answered}
use Rattle.session_world.specs.Worlds.{World}
use Rattle.session_world.specs.declared.seat.Seat.{Seat}

-- the most sessions of a world
abbrev pub session_limit : ℕ
session_limit = 64

-- the state that a history was opened with, by a trace of it
abbrev pub opened_with : List State → State
opened_with [] = empty_state
opened_with (state ∷ states) = state

-- a seat's book is the shared one, or its typist's
abbrev pub HasBook : Seat → Type 0
HasBook seat = (seat.book ≡ 0) ⊎ (seat.book ≡ seat.typist)

-- a seat is one that may be: it has such a book, and its key under way got answers that its calls may get
abbrev pub IsSeat : List Rule → Seat → Type 0
IsSeat rules seat = HasBook seat × (may_be_answered rules seat ≡ true)

-- a world's type keeps that there are not too many seats, that each may be, and that each call of its history may be
-- made
pub record Keeps (rules : List Rule) (seats : List Seat) (history : List Entry) : Type 0 where
  pub count : length seats ≤ session_limit
  pub each_seat : All (IsSeat rules) seats
  pub each_call : All (λ entry. is_fit entry.call ≡ true) history

-- the call that the key under way of a place asks
abbrev pub asked_at : World → ℕ → Option Call
asked_at world place = option_and_then (asked_in world.rules) (slice_get world.seats place)
