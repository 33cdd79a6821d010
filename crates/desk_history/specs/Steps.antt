-- What each step of a history's table makes of views.
use Rattle.std.specs.Prelude.{ℕ, ◌+◌, Option, None, Some, List, [], ◌∷◌, ◌++◌}
use Rattle.skk_calls.specs.declared.entry.Entry.{Entry}
use Rattle.desk_history.specs.declared.view.Account.{Account}
use Rattle.desk_history.specs.declared.view.View.{View}
use Rattle.desk_history.specs.Views.{account, view_of, accounts_view}

-- the roll leaves: what stays at the pen
abbrev pub without_roll : View → View
without_roll pen = view_of pen.seen pen.accounts None

-- the roll leaves: what its seat has
abbrev pub roll_alone : View → View
roll_alone pen = view_of [] [] pen.roll

-- a roll that counts one number more
abbrev pub counted_on : Option ℕ → Option ℕ
counted_on None = None
counted_on (Some drawn) = Some (drawn + 1)

-- a number is drawn: the roll's seat
abbrev pub with_draw : View → View
with_draw seat = view_of seat.seen seat.accounts (counted_on seat.roll)

-- the account of the number that is drawn next, which has seen nothing and made no call
abbrev pub new_accounts : Option ℕ → List Account
new_accounts None = []
new_accounts (Some drawn) = account drawn [] [] ∷ []

-- a number is drawn: the new caller's seat
abbrev pub newcomer : View → View
newcomer seat = accounts_view (new_accounts seat.roll)

-- a caller comes to the pen, to call or to end: its account stands before those that are there
abbrev pub with_accounts_of : View → View → View
with_accounts_of pen seat = view_of pen.seen (seat.accounts ++ pen.accounts) pen.roll

-- the accounts with an entry's call in the first one
abbrev pub with_call : Entry → List Account → List Account
with_call entry [] = []
with_call entry (first ∷ accounts) =
    account first.number first.seen (first.mine ++ (entry.call, entry.answer) ∷ []) ∷ accounts

-- an entry of the first account's caller is made
abbrev pub entered : Entry → View → View
entered entry pen = view_of (pen.seen ++ entry ∷ []) (with_call entry pen.accounts) pen.roll

-- the accounts behind the first one
abbrev pub behind_first : List Account → List Account
behind_first [] = []
behind_first (first ∷ accounts) = accounts

-- the first account leaves: what stays at the pen
abbrev pub without_first : View → View
without_first pen = view_of pen.seen (behind_first pen.accounts) pen.roll

-- the first account, which has seen this history
abbrev pub first_with : List Entry → List Account → List Account
first_with seen [] = []
first_with seen (first ∷ accounts) = account first.number seen first.mine ∷ []

-- the first account leaves: its caller's seat, which has seen the whole history
abbrev pub first_alone : View → View
first_alone pen = accounts_view (first_with pen.seen pen.accounts)

-- the roll returns to the pen
abbrev pub with_roll_of : View → View → View
with_roll_of pen seat = view_of pen.seen pen.accounts seat.roll
