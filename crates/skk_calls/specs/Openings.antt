-- Openings of a dictionary, and what a chronicle over one has.
use Rattle.std.specs.Prelude.{◌≡◌, ℕ, Bool, true, false, ◌==◌, Some, List}
use Rattle.std.specs.List.{list_all}
use Rattle.skk_calls.specs.declared.answer.Answer.{Answer}
use Rattle.skk_calls.specs.declared.answer.Answer.TheVariants.{Done, Refused}
use Rattle.skk_calls.specs.declared.chronicle.Noted.{Noted}
use Rattle.skk_calls.specs.Chronicles.{opening_of, history_of}
use Rattle.skk_calls.specs.Histories.{Opening, IsLegal, dialog}
use Rattle.skk_calls.specs.Interactions.{Dialog}
use Rattle.skk_calls.specs.Rows.{Row}
use Rattle.skk_calls.specs.States.{empty_state}

-- the opening over system files where nothing was learnt before, and nothing is kept on a disk
abbrev pub fresh_opening : List (List Row) → Opening
fresh_opening files = record { files = files; state = empty_state; end = 0; limit = 0; time = 0; faults = 0 }

-- a chronicle has this opening, and each of its answers is legal at its place
abbrev pub IsLegalOver : Opening → List Noted → Type 0
IsLegalOver opening chronicle = (opening_of chronicle ≡ Some opening) × IsLegal opening (history_of chronicle)

-- what the caller of a number said in a chronicle
abbrev pub said_in : List Noted → ℕ → Dialog
said_in chronicle number = dialog (history_of chronicle) number

-- each entry of a chronicle is of the caller with the number 0
abbrev pub are_of_one : List Noted → Bool
are_of_one chronicle = list_all (λ entry. entry.number == 0) (history_of chronicle)

-- an answer is a reply
abbrev pub is_reply : Answer → Bool
is_reply (Done reply) = true
is_reply (Refused refusal) = false

-- no call of a chronicle was refused
abbrev pub are_served : List Noted → Bool
are_served chronicle = list_all (λ entry. is_reply entry.answer) (history_of chronicle)
