-- A world of sessions over one dictionary, and what events make of it.
use Rattle.std.specs.Prelude.{ℕ, true, false, if◌then◌else◌, Option, None, Some, List, [], ◌∷◌, ◌++◌, map}
use Rattle.std.specs.Prelude.{is_some, slice_get, slice_set}
use Rattle.std.specs.Option.{option_and_then, option_map}
use Rattle.skk_text.specs.declared.key.Key.{Key}
use Rattle.romaji_rules.specs.declared.rule.Rule.{Rule}
use Rattle.skk_calls.specs.declared.answer.Answer.{Answer}
use Rattle.skk_calls.specs.declared.answer.Answer.TheVariants.{Done, Refused}
use Rattle.skk_calls.specs.declared.answer.Refusal.{Refusal}
use Rattle.skk_calls.specs.declared.answer.Refusal.TheVariants.{Memory}
use Rattle.skk_calls.specs.declared.call.Call.{Call}
use Rattle.skk_calls.specs.declared.entry.Entry.{Entry}
use Rattle.skk_calls.specs.Dictionary.{answer, after, moves}
use Rattle.skk_calls.specs.Histories.{after_answer, in_doubt}
use Rattle.skk_calls.specs.Rows.{Row}
use Rattle.skk_calls.specs.States.{State, empty_state}
use Rattle.session_world.specs.Seats.{new_seat, renewed, asked_in, with_answers, answered}
use Rattle.session_world.specs.declared.event.Event.{Event}
use Rattle.session_world.specs.declared.event.Event.TheVariants as events
use Rattle.session_world.specs.declared.seat.Seat.{Seat}

-- a world: its rules, the rows of the system files, its seats, the state that its history was opened with, the history,
-- and the state of its dictionary
pub record World : Type 0 where
  pub rules : List Rule
  pub files : List (List Row)
  pub seats : List Seat
  pub opened : State
  pub history : List Entry
  pub state : State

-- a new world of sessions, each of a typist and a book, in which nothing was learnt
abbrev pub new_world : List (ℕ × ℕ) → List Rule → List (List Row) → World
new_world sessions rules files = record {
  rules = rules;
  files = files;
  seats = map (λ session. new_seat session.0 session.1) sessions;
  opened = empty_state;
  history = [];
  state = empty_state;
}

-- a world with another seat in a place
abbrev pub with_seat : World → ℕ → Seat → World
with_seat world place seat = record world { seats = slice_set world.seats place seat }

-- a world in whose place a key was started, where there is a seat and no key is under way
abbrev pub started : World → ℕ → Key → Seat → Option World
started world place key seat =
    if is_some seat.under_way then None else Some (with_seat world place (with_answers world.rules seat key []))

-- a world in which a call of a place got an answer: the call is entered with it
abbrev pub entered : World → ℕ → Seat → Call → Answer → World
entered world place seat call answer = record (with_seat world place (answered world.rules seat answer)) {
  history = world.history ++ record { number = place; call = call; answer = answer } ∷ [];
  state = after_answer world.state call answer;
}

-- a world in which the call that a place asks got an answer, where it asks one, and there is an answer for that
abbrev pub answered_by : (Call → Option Answer) → World → ℕ → Seat → Option World
answered_by answer_of world place seat =
    option_and_then (λ call. option_map (entered world place seat call) (answer_of call)) (asked_in world.rules seat)

-- a refusal of a call: as out of memory, or for another cause where it would change something
abbrev pub refusal_of : State → Refusal → Call → Option Answer
refusal_of state Memory call = Some (Refused Memory)
refusal_of state refusal call = if moves state call then Some (Refused refusal) else None

-- a world that was opened anew with a state: new sessions of the same typists and books, and a new history
abbrev pub reopened : World → State → World
reopened world state =
    record world { seats = map renewed world.seats; opened = state; history = []; state = state }

-- the last of some calls
abbrev pub last_of : List Call → Option Call
last_of [] = None
last_of (call ∷ []) = Some call
last_of (call ∷ other ∷ calls) = last_of (other ∷ calls)

-- a world after an event, where it may come now
abbrev pub stepped : World → Event → Option World
stepped world (events.Key place key) = option_and_then (started world place key) (slice_get world.seats place)
stepped world (events.Serve place) =
    option_and_then (answered_by (λ call. Some (Done (answer world.files world.state call))) world place)
    (slice_get world.seats place)
stepped world (events.Refuse place refusal) =
    option_and_then (answered_by (refusal_of world.state refusal) world place) (slice_get world.seats place)
stepped world (events.Crash false) = Some (reopened world world.state)
stepped world (events.Crash true) =
    option_map (λ call. reopened world (after world.state call)) (last_of (in_doubt [] world.history))

-- a world after events, where each may come at its time
abbrev pub all_stepped : World → List Event → Option World
all_stepped world [] = Some world
all_stepped world (event ∷ more) = option_and_then (λ next. all_stepped next more) (stepped world event)
