-- Which sessions are a typist's own.
use Rattle.std.proofs.Common.{◌≡◌, ℕ, true, false, map, Option, Some, None, [], ◌∷◌, ◌==◌, ap, refl}
use Rattle.std.proofs.lemmas.Bool.{false≢true}
use Rattle.skk_text.specs.declared.mode.Mode.TheVariants.{Hira}
use Rattle.skk_calls.specs.declared.part.Part.TheVariants.{Nasi}
use Rattle.skk_calls.specs.Rows.{Learned}
use Rattle.session_machine.specs.declared.frame.Choice.{Choice}
use Rattle.session_machine.specs.declared.frame.Waiting.TheVariants as waits
use Rattle.session_machine.specs.OwnSessions.{is_own_learning, is_own_choice, IsOwn}
use Rattle.session_machine.specs.Session.{Session}
use Rattle.session_machine.proofs.Examples.{none, plain, reading, conversion}

-- what was learnt in a book
abbrev learnt_in : ℕ → Learned
learnt_in book = record { book = book; key = record { part = Nasi; reading = [] }; stamp = 1; before = None }

own_learnings : map (is_own_learning 3) (None ∷ Some (learnt_in 3) ∷ Some (learnt_in 2) ∷ [])
    ≡ true ∷ true ∷ false ∷ []
own_learnings = refl

-- a choice, and what was learnt of it
abbrev choice : Option Learned → Choice
choice learned = record { inserted = 1; end = 3; mode = Hira; conversion = conversion 0 false; learned = learned }

own_choices : map (is_own_choice 3)
    (None ∷ Some (choice None) ∷ Some (choice (Some (learnt_in 3))) ∷ Some (choice (Some (learnt_in 2))) ∷ [])
    ≡ true ∷ true ∷ true ∷ false ∷ []
own_choices = refl

-- a session in a registration, with the books of what its last choices learnt: in its frame and in the one outside
abbrev session : ℕ → ℕ → ℕ → ℕ → Session
session typist book inner outer = record {
  typist = typist;
  book = book;
  frame = record { text = []; mode = Hira; state = plain; last_choice = Some (choice (Some (learnt_in inner))) };
  outer =
      record {
        text = [];
        mode = Hira;
        waiting = waits.Reading (reading [] []);
        last_choice = Some (choice (Some (learnt_in outer)));
      } ∷ [];
  notice = none;
}

own : IsOwn 3 (session 3 3 3 3)
own = (refl, refl, refl, refl)

-- a session of another typist, in the shared book, or with a learning of another book is not
other_typist : IsOwn 3 (session 2 3 3 3) → ⊥
other_typist is = false≢true (ap (λ n. n == 3) is.0)

shared_book : IsOwn 3 (session 3 0 3 3) → ⊥
shared_book is = false≢true (ap (λ n. n == 3) is.1)

other_inner : IsOwn 3 (session 3 3 2 3) → ⊥
other_inner is = false≢true is.2

other_outer : IsOwn 3 (session 3 3 3 0) → ⊥
other_outer is = false≢true is.3
