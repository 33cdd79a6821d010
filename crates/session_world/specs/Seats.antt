-- A seat of a world: a session, the keys that led to it, and the key under way.
use Rattle.std.specs.Prelude.{ℕ, Bool, true, Option, None, Some, List, [], ◌∷◌, ◌++◌}
use Rattle.std.specs.Option.{option_and_then, option_map_or}
use Rattle.skk_text.specs.declared.key.Key.{Key}
use Rattle.romaji_rules.specs.declared.rule.Rule.{Rule}
use Rattle.skk_calls.specs.declared.answer.Answer.{Answer}
use Rattle.skk_calls.specs.declared.call.Call.{Call}
use Rattle.skk_calls.specs.Interactions.{end_of}
use Rattle.session_machine.specs.NextAsked.{may_answer_all, next_asked}
use Rattle.session_machine.specs.Pressed.{pressed}
use Rattle.session_machine.specs.Session.{Session, new_session}
use Rattle.session_world.specs.declared.seat.Seat.{Seat}

-- a seat of a typist and a book with a new session: no key has ended, and none is under way
abbrev pub new_seat : ℕ → ℕ → Seat
new_seat typist book =
    record { typist = typist; book = book; keys = []; session = new_session typist book; under_way = None }

-- a seat with a new session of the same typist and book
abbrev pub renewed : Seat → Seat
renewed seat = new_seat seat.typist seat.book

-- the call that the key under way asks next; none is asked where no key is under way
abbrev pub asked_in : List Rule → Seat → Option Call
asked_in rules seat =
    option_and_then (λ key. next_asked (pressed rules seat.session key.key) key.answers) seat.under_way

-- a seat with a key under way that got these answers
abbrev pub with_key : Seat → Key → List Answer → Seat
with_key seat key answers = record seat { under_way = Some (record { key = key; answers = answers }) }

-- a seat in which a key has ended with this session
abbrev pub with_end : Seat → Key → Session → Seat
with_end seat key session = record seat { keys = seat.keys ++ key ∷ []; session = session; under_way = None }

-- a seat with a key that got these answers: it ends where it asks no more, and is under way else
abbrev pub with_answers : List Rule → Seat → Key → List Answer → Seat
with_answers rules seat key answers =
    option_map_or (with_end seat key) (end_of (pressed rules seat.session key) answers) (with_key seat key answers)

-- a seat whose key under way got one answer more
abbrev pub answered : List Rule → Seat → Answer → Seat
answered rules seat answer =
    option_map_or (λ key. with_answers rules seat key.key (key.answers ++ answer ∷ [])) seat.under_way seat

-- the answers of the key under way are such as its calls may get
abbrev pub may_be_answered : List Rule → Seat → Bool
may_be_answered rules seat =
    option_map_or (λ key. may_answer_all (pressed rules seat.session key.key) key.answers) seat.under_way true
