-- What holds of a world after any events.
use Rattle.std.specs.Prelude.{◌≡◌, ⊤, ℕ, Option, None, Some, List, [], ◌++◌, slice_get}
use Rattle.skk_text.specs.declared.key.Key.{Key}
use Rattle.romaji_rules.specs.declared.rule.Rule.{Rule}
use Rattle.skk_calls.specs.declared.call.Call.{Call}
use Rattle.skk_calls.specs.Histories as histories
use Rattle.skk_calls.specs.States.{State}
use Rattle.skk_calls.specs.Histories.{IsLegalWhere, dialog, state_after}
use Rattle.skk_calls.specs.Interactions.{Interaction, Dialog, answers_of, asked, calls_of, end_of}
use Rattle.session_machine.specs.NextAsked.{next_asked}
use Rattle.session_machine.specs.Pressed.{all_pressed, pressed}
use Rattle.session_machine.specs.Session.{Session, new_session}
use Rattle.session_world.specs.Worlds.{World}
use Rattle.session_world.specs.declared.seat.Seat.{Seat}
use Rattle.session_world.specs.declared.seat.UnderWay.{UnderWay}

-- an interaction has asked a dialog, by its answers
abbrev pub HasAsked : {S : Type 0} → Interaction S → Dialog → Type 0
HasAsked interaction dialog = asked interaction (answers_of dialog) ≡ calls_of dialog

-- keys of a session were all taken: they asked just this dialog, and left this session
abbrev pub Played : List Rule → Session → List Key → Dialog → Session → Type 0
Played rules session keys dialog after =
    let interaction = all_pressed rules session keys in
    HasAsked interaction dialog × (end_of interaction (answers_of dialog) ≡ Some after)

-- the key under way has asked a dialog and asks more; where none is under way there is none
abbrev pub IsUnderWay : List Rule → Session → Option UnderWay → Dialog → Type 0
IsUnderWay rules session None dialog = dialog ≡ []
IsUnderWay rules session (Some key) dialog =
    let interaction = pressed rules session key.key in
    (answers_of dialog ≡ key.answers) × HasAsked interaction dialog
    × (call : Call) × (next_asked interaction (answers_of dialog) ≡ Some call)

-- a seat has played its part of the dialog: its session is what its ended keys leave of a new session, by the first of
-- the dialog, and its key under way has asked the rest
pub record HasPlayed (rules : List Rule) (seat : Seat) (dialog : Dialog) : Type 0 where
  pub first : Dialog
  pub rest : Dialog
  pub parts : dialog ≡ first ++ rest
  pub played : Played rules (new_session seat.typist seat.book) seat.keys first seat.session
  pub under_way : IsUnderWay rules seat.session seat.under_way rest

-- what a world's history stands over
abbrev pub opening_of : World → histories.Opening
opening_of world =
    record { files = world.files; state = world.opened; end = 0; limit = 0; time = 0; faults = 0 }

-- any numbers may be told of a learned file that is full
abbrev pub AnyNumbers : histories.Opening → State → Call → histories.FullFile → Type 0
AnyNumbers opening state call told = ⊤

-- each seat of a world has played its part of the history; its dictionary is the state after the history; and the
-- history is legal
pub record Stands (world : World) : Type 0 where
  pub seats : (place : ℕ) (seat : Seat) → slice_get world.seats place ≡ Some seat
      → HasPlayed world.rules seat (dialog world.history place)
  pub state : world.state ≡ state_after world.opened world.history
  pub legal : IsLegalWhere AnyNumbers (opening_of world) world.history
