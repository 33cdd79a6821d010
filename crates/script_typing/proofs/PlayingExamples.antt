-- Lines that are played, at small examples, each worked out by hand.
use Rattle.std.proofs.Common.{◌≡◌, ℕ, ◌==◌, cond, List, [], ◌∷◌, codes, refl}
use Rattle.skk_calls.specs.declared.answer.Answer.{Answer}
use Rattle.skk_calls.specs.declared.answer.Answer.TheVariants.{Done, Refused}
use Rattle.skk_calls.specs.declared.answer.Refusal.TheVariants.{Memory}
use Rattle.skk_calls.specs.declared.answer.Reply.TheVariants.{Readings}
use Rattle.skk_calls.specs.declared.call.Call.{Call}
use Rattle.skk_calls.specs.declared.call.Call.TheVariants.{Complete}
use Rattle.skk_calls.specs.Dictionary.{answer, after}
use Rattle.skk_calls.specs.Interactions.{Interaction, ends, asks, prints, Dialog}
use Rattle.skk_calls.specs.Rows.{Row}
use Rattle.skk_calls.specs.States.{State}
use Rattle.skk_text.specs.declared.key.Key.TheVariants.{Char}
use Rattle.key_scripts.specs.declared.line.Line.{Line}
use Rattle.key_scripts.specs.declared.line.Line.TheVariants.{Keys, Opening}
use Rattle.session_machine.specs.Session.{new_session}
use Rattle.script_typing.specs.Playing.{playing, sessions_behind, sessions_from, end_alone, history_alone}
use Rattle.script_typing.specs.PlayingLaws.{entries_by, said_in_all}

-- a line that opens a session, and two without a key
abbrev lines : List Line
lines = Opening 2 5 0 ∷ Keys 2 [] ∷ Keys 1 [] ∷ []

-- nothing is printed, and behind the lines their sessions are there, ascending by their numbers
lines_played : playing [] [] lines ≡ ends ((1, new_session 1 1) ∷ (2, new_session 5 0) ∷ [])
lines_played = refl

-- lines whose keys look a reading up, of which no answer has come, or just as many as come
sessions_left : (sessions_behind [] lines [] ≡ (1, new_session 1 1) ∷ (2, new_session 5 0) ∷ [])
    × (sessions_behind [] lines (Refused Memory ∷ []) ≡ [])
    × (sessions_behind [] (Keys 1 (Char 47 ∷ Char 97 ∷ Char 32 ∷ []) ∷ []) [] ≡ [])
unfolding lib.Utf8.encode
sessions_left = (refl, refl, refl)

-- where each has a caller of its own, of its place: what that has said leads to the end, or to none
abbrev said : ℕ → Dialog
said number = cond (number == 4) ((Complete 1 (codes "a"), Refused Memory) ∷ []) []

sessions_apart : sessions_from [] said 3 ((1, Keys 1 [] ∷ []) ∷ (2, Opening 2 5 0 ∷ []) ∷ (7, Opening 7 5 0 ∷ []) ∷ [])
    ≡ (1, new_session 1 1) ∷ (2, new_session 2 2) ∷ (7, new_session 5 0) ∷ []
sessions_apart = refl

-- two calls, the second of which is answered behind the first
module _ (files : List (List Row)) (state : State) (first second : Call) where
  abbrev two : Interaction (List Answer)
  two = asks first (λ one. prints (codes "x") (asks second (λ other. ends (other ∷ one ∷ []))))

  ended_alone : end_alone files state two
      ≡ Done (answer files (after state first) second) ∷ Done (answer files state first) ∷ []
  ended_alone = refl

  called_alone : history_alone files state two
      ≡ record { number = 0; call = first; answer = Done (answer files state first) }
      ∷ record { number = 0; call = second; answer = Done (answer files (after state first) second) } ∷ []
  called_alone = refl

  -- entries of one caller say its dialog
  said_again : said_in_all (entries_by 3 ((first, Refused Memory) ∷ (second, Done (Readings [])) ∷ []))
      ≡ (first, Refused Memory) ∷ (second, Done (Readings [])) ∷ []
  said_again = refl
