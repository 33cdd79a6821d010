-- What the type of a world keeps where it is new, is opened anew, or changes.
use Rattle.std.proofs.Common.{◌≡◌, ◌≤◌, ◌⊎◌, refl, ℕ, true, List, [], ◌∷◌, ◌++◌, length, map, arith}
use Rattle.std.specs.List.{All}
use Rattle.std.proofs.lemmas.List.{length-map}
use Rattle.std.proofs.lemmas.List.Elements.{All-map, All-push, All-weaker}
use Rattle.romaji_rules.specs.declared.rule.Rule.{Rule}
use Rattle.skk_calls.specs.declared.entry.Entry.{Entry}
use Rattle.skk_calls.specs.Dictionary.{is_fit}
use Rattle.session_world.specs.Keeping.{IsSeat, Keeps}
use Rattle.session_world.specs.Seats.{new_seat, renewed}
use Rattle.session_world.specs.declared.seat.Seat.{Seat}

-- no entry has a call that may not be made
none-unfit : All (λ (entry : Entry). is_fit entry.call ≡ true) []
none-unfit k x within = absurd (omega arith)

-- the seat of a new session of a typist and a book
abbrev seat_of : ℕ × ℕ → Seat
seat_of session = new_seat session.0 session.1

-- a typist's book is the shared one, or the typist's
abbrev MayLearn : ℕ × ℕ → Type 0
MayLearn session = (session.1 ≡ 0) ⊎ (session.1 ≡ session.0)

-- the seats of a new world may be
pub keeps-new : (rules : List Rule) (sessions : List (ℕ × ℕ)) (seats : List Seat) (history : List Entry)
    → length sessions ≤ 64 → All MayLearn sessions → seats ≡ map seat_of sessions → history ≡ []
    → Keeps rules seats history
keeps-new rules sessions seats history count books is none =
    rw (is, none) (record {
      count = omega (arith, length-map sessions seat_of);
      each_seat =
          All-map (IsSeat rules) seat_of sessions
          (All-weaker MayLearn (λ session. IsSeat rules (seat_of session)) (λ session book. (book, refl)) sessions
          books);
      each_call = none-unfit;
    })

-- the seats of a world that was opened anew may be
pub keeps-renewed : (rules : List Rule) (before seats : List Seat) (history after : List Entry)
    → Keeps rules before history → seats ≡ map renewed before → after ≡ [] → Keeps rules seats after
keeps-renewed rules before seats history after keeps is none =
    rw (is, none) (record {
      count = omega (arith, length-map before renewed, keeps.count);
      each_seat =
          All-map (IsSeat rules) renewed before
          (All-weaker (IsSeat rules) (λ seat. IsSeat rules (renewed seat)) (λ seat is. (is.0, refl)) before
          keeps.each_seat);
      each_call = none-unfit;
    })

-- seats that changed, with as many as before, may be beside the same history
pub keeps-changed : (rules : List Rule) (before seats : List Seat) (history : List Entry)
    → Keeps rules before history → length seats ≡ length before → All (IsSeat rules) seats
    → Keeps rules seats history
keeps-changed rules before seats history keeps count all =
    record { count = omega (arith, keeps.count); each_seat = all; each_call = keeps.each_call }

-- and a history may have one entry more whose call may be made
pub keeps-entered : (rules : List Rule) (seats : List Seat) (history more : List Entry) (entry : Entry)
    → Keeps rules seats history → is_fit entry.call ≡ true → more ≡ history ++ entry ∷ [] → Keeps rules seats more
keeps-entered rules seats history more entry keeps fit is =
    rw is (record {
      count = keeps.count;
      each_seat = keeps.each_seat;
      each_call = All-push (λ (e : Entry). is_fit e.call ≡ true) history entry keeps.each_call fit;
    })
