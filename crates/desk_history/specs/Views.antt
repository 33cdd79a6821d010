-- What the seats of a history's table know.
use Rattle.std.specs.Prelude.{ℕ, Option, None, Some, List, [], ◌∷◌}
use Rattle.skk_calls.specs.declared.answer.Answer.{Answer}
use Rattle.skk_calls.specs.declared.call.Call.{Call}
use Rattle.skk_calls.specs.declared.entry.Entry.{Entry}
use Rattle.desk_history.specs.declared.view.Account.{Account}
use Rattle.desk_history.specs.declared.view.View.{View}

-- the account of a caller: its number, the history as far as it has seen it, and its own calls
abbrev pub account : ℕ → List Entry → List (Call × Answer) → Account
account number seen mine = record { number = number; seen = seen; mine = mine }

-- what a seat knows: a history, accounts, and how many numbers were drawn where the roll stands with it
abbrev pub view_of : List Entry → List Account → Option ℕ → View
view_of seen accounts roll = record { seen = seen; accounts = accounts; roll = roll }

-- a seat with accounts and nothing else
abbrev pub accounts_view : List Account → View
accounts_view accounts = view_of [] accounts None

-- the seat of a caller, which has its account alone
abbrev pub caller_view : Account → View
caller_view account = accounts_view (account ∷ [])

-- the seat of a roll, which has its count alone
abbrev pub roll_view : ℕ → View
roll_view drawn = view_of [] [] (Some drawn)

-- a seat that knows nothing
abbrev pub empty_view : View
empty_view = accounts_view []
