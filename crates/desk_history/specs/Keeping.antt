-- What the table of a history keeps between any two steps.
use Rattle.std.specs.Prelude.{◌≡◌, ◌≤◌, ◌+◌, ◌%◌, ◌^◌, ⊤, ℕ, Bool, ◌==◌, nat_lt, if◌then◌else◌, Option, None, Some}
use Rattle.std.specs.Prelude.{List, [], ◌∷◌, length, All}
use mathlib.Core.List.{IsPrefix}
use Rattle.atomic_table.specs.Table.{State}
use Rattle.skk_calls.specs.declared.entry.Entry.{Entry}
use Rattle.skk_calls.specs.Histories.{dialog}
use Rattle.desk_history.specs.declared.view.Account.{Account}
use Rattle.desk_history.specs.declared.view.View.{View}

-- an account is true of a history: what the caller has seen begins it, and the calls that it has of the caller's number
-- are just the caller's own
abbrev pub IsTrueOf : List Entry → Account → Type 0
IsTrueOf history account = IsPrefix account.seen history × (dialog history account.number ≡ account.mine)

-- each account of a seat is true of a history
abbrev pub AreTrueOf : List Entry → View → Type 0
AreTrueOf history view = All (IsTrueOf history) view.accounts

-- f of each, added up
abbrev pub total : {A : Type 0} → (A → ℕ) → List A → ℕ
total f [] = 0
total f (x ∷ xs) = f x + total f xs

-- 1 where a test passes, and else 0
abbrev pub one_if : Bool → ℕ
one_if passes = if passes then 1 else 0

-- how often a number stands with a seat
abbrev pub times : ℕ → View → ℕ
times number view = total (λ account. one_if (account.number == number)) view.accounts

-- 1 where a roll is there, and else 0
abbrev pub rolls : Option ℕ → ℕ
rolls None = 0
rolls (Some drawn) = 1

-- how many numbers a roll has counted, where it is there
abbrev pub drawn_by : Option ℕ → ℕ
drawn_by None = 0
drawn_by (Some drawn) = drawn

-- how many numbers were drawn, as the seats know
abbrev pub all_drawn : List View → ℕ
all_drawn views = total (λ view. drawn_by view.roll) views

-- what all seats together keep of a history: each account is true of it, the roll stands in one place, each number that
-- was drawn stands in one place and no other number in any, and no entry has another number
pub record Keeps (history : List Entry) (views : List View) : Type 0 where
  pub accounts : All (AreTrueOf history) views
  pub one_roll : total (λ view. rolls view.roll) views ≡ 1
  pub once : (number : ℕ) → total (times number) views ≡ one_if (nat_lt number (all_drawn views))
  pub strangers : (number : ℕ) → all_drawn views ≤ number → dialog history number ≡ []

-- a seat knows no history of its own
abbrev pub KnowsNone : View → Type 0
KnowsNone view = view.seen ≡ []

-- the rule: the first seat is the pen's, which alone knows the history; all seats together keep it, and the word is its
-- length modulo 2^64
abbrev pub IsHistory : {S : Type 0} → State S View → Type 0
IsHistory {S} state =
    (pen : View) × (others : List View) × (state.views ≡ pen ∷ others)
    × (state.words ≡ (length pen.seen % 2 ^ 64) ∷ []) × All KnowsNone others × Keeps pen.seen (pen ∷ others)

-- the first of some accounts, where there is one, is true of a history
abbrev pub IsFirstTrue : List Entry → List Account → Type 0
IsFirstTrue history [] = ⊤
IsFirstTrue history (account ∷ accounts) = IsTrueOf history account

-- where a roll is there, no entry of a history has a number that was not drawn
abbrev pub NoneBeyond : List Entry → Option ℕ → Type 0
NoneBeyond history None = ⊤
NoneBeyond history (Some drawn) = (number : ℕ) → drawn ≤ number → dialog history number ≡ []

-- what a look tells the pen: the account that came last is true of the history, and no entry has a number that was not
-- drawn, as far as the pen has the roll
abbrev pub IsTold : View → Type 0
IsTold pen = IsFirstTrue pen.seen pen.accounts × NoneBeyond pen.seen pen.roll
