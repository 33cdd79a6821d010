-- What contracts see of a pen, of a caller's seat and of a roll.
use Rattle.std.specs.Prelude.{ℕ, Option, None, Some, List, [], ◌∷◌}
use Rattle.atomic_table.specs.Seated.{TableId}
use Rattle.skk_calls.specs.declared.answer.Answer.{Answer}
use Rattle.skk_calls.specs.declared.call.Call.{Call}
use Rattle.skk_calls.specs.declared.entry.Entry.{Entry}
use Rattle.desk_history.specs.declared.view.Account.{Account}

-- a pen: its table, the whole history, the accounts of the callers that ended, the last one first, and how many numbers
-- were drawn, where the roll was given back
pub record PenState : Type 0 where
  pub table : TableId
  pub seen : List Entry
  pub ended : List Account
  pub roll : Option ℕ

-- a caller's seat: its table, its number, the history as far as it has seen it, and its own calls with their answers
pub record CallerState : Type 0 where
  pub table : TableId
  pub number : ℕ
  pub seen : List Entry
  pub mine : List (Call × Answer)

-- a roll: its table, and how many numbers were drawn
pub record RollState : Type 0 where
  pub table : TableId
  pub drawn : ℕ

-- the number of the first of some accounts
abbrev pub first_number : List Account → Option ℕ
first_number [] = None
first_number (account ∷ accounts) = Some account.number

-- what was seen by the first of some accounts
abbrev pub seen_by : List Account → List Entry
seen_by [] = []
seen_by (account ∷ accounts) = account.seen

-- the calls of the first of some accounts
abbrev pub calls_of : List Account → List (Call × Answer)
calls_of [] = []
calls_of (account ∷ accounts) = account.mine

-- the table of no history
abbrev pub no_table : TableId
no_table = record { words = 0; slots = 0; views_name = 0; atom = 0; block = 0; offset = 0; slot_names = [] }
