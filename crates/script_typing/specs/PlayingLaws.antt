-- What one caller leaves that plays lines alone.
use Rattle.std.proofs.Common.{◌≡◌, ◌∙◌, ap, sym, refl, ℕ, List, ◌∷◌, map}
use Rattle.skk_calls.specs.declared.entry.Entry.{Entry}
use Rattle.skk_calls.specs.Dictionary.{after}
use Rattle.skk_calls.specs.Interactions.{Interaction, ends, Dialog, Leads, here, asking, printing, IsAnsweredAlone}
use Rattle.skk_calls.specs.Rows.{Row}
use Rattle.skk_calls.specs.States.{State}
use Rattle.script_typing.specs.Playing.{end_alone, history_alone}

-- what is said in a history, by whomever
abbrev pub said_in_all : List Entry → Dialog
said_in_all history = map (λ entry. (entry.call, entry.answer)) history

-- the entries of the caller of a number that says a dialog
abbrev pub entries_by : ℕ → Dialog → List Entry
entries_by number dialog = map (λ pair. record { number = number; call = pair.0; answer = pair.1 }) dialog

-- a dialog that the dictionary of one thread answers, and that leads an interaction to its end, is that of the one
-- caller whom it answers alone, and the value of the end is the one that it is led to
pub led-alone : {S : Type 0} {from : Interaction S} {dialog : Dialog} {text : List ℕ} (value : S)
    (files : List (List Row)) (state : State) → Leads from dialog text (ends value)
    → IsAnsweredAlone files state dialog
    → (history_alone files state from ≡ entries_by 0 dialog) × (end_alone files state from ≡ value)
led-alone value files state (here _) alone = (refl, refl)
led-alone value files state (asking call next given dialog text to way) alone =
    let rest = led-alone value files (after state call) way alone.1 in (
      ap (λ g. record { number = 0; call = call; answer = g } ∷ history_alone files (after state call) (next g))
          (sym alone.0)
          ∙ ap (λ h. record { number = 0; call = call; answer = given } ∷ h) rest.0,
      ap (λ g. end_alone files (after state call) (next g)) (sym alone.0) ∙ rest.1,
    )
led-alone value files state (printing first rest dialog text to way) alone =
    led-alone value files state way alone
