-- Tables of two callers, as the definitions compute them, and tables that the rule refuses.
use Rattle.std.proofs.Common.{◌≡◌, ℕ, ◌%◌, ◌^◌, ◌<◌, ◌≤◌, nat_lt, tests, refl, None, Some, List, [], ◌∷◌}
use Rattle.std.proofs.Common.{codes, length, map, All, ap, sym, ◌∙◌, arith}
use Rattle.std.proofs.lemmas.List.Elements.{All-cons, All-nil}
use Rattle.skk_calls.specs.declared.answer.Answer.{Answer}
use Rattle.skk_calls.specs.declared.answer.Answer.TheVariants.{Done, Refused}
use Rattle.skk_calls.specs.declared.answer.Refusal.TheVariants.{Memory}
use Rattle.skk_calls.specs.declared.answer.Reply.TheVariants.{Readings}
use Rattle.skk_calls.specs.declared.call.Call.{Call}
use Rattle.skk_calls.specs.declared.call.Call.TheVariants.{Complete}
use Rattle.skk_calls.specs.declared.entry.Entry.{Entry}
use Rattle.skk_calls.specs.Histories.{dialog}
use Rattle.desk_history.specs.declared.view.Account.{Account}
use Rattle.desk_history.specs.declared.view.View.{View}
use Rattle.desk_history.specs.Keeping.{AreTrueOf, IsHistory, IsTold, IsTrueOf, Keeps, KnowsNone, all_drawn, one_if}
use Rattle.desk_history.specs.Keeping.{times, total}
use Rattle.desk_history.specs.Seats.{calls_of, first_number, seen_by}
use Rattle.desk_history.specs.Steps.{entered, first_alone, newcomer, roll_alone, with_accounts_of, with_draw}
use Rattle.desk_history.specs.Steps.{with_roll_of, without_first, without_roll}
use Rattle.desk_history.specs.Views.{account, caller_view, empty_view, roll_view, view_of}

-- a function gives what a table says of each value, and of each pair
abbrev Gives : {X Y : Type 0} → (X → Y) → List (X × Y) → Type 0
Gives f table = map (λ line. f line.0) table ≡ map (λ line. line.1) table

abbrev Gives2 : {X Y Z : Type 0} → (X → Y → Z) → List (X × Y × Z) → Type 0
Gives2 f table = map (λ line. f line.0 line.1) table ≡ map (λ line. line.2) table

-- what caller 0 asked and was answered, and caller 1
abbrev ask : Call
ask = Complete 1 (codes "a")

abbrev told : Answer
told = Done (Readings [])

abbrev other_ask : Call
other_ask = Complete 2 (codes "b")

abbrev lacked : Answer
lacked = Refused Memory

abbrev entry : Entry
entry = record { number = 0; call = ask; answer = told }

abbrev other_entry : Entry
other_entry = record { number = 1; call = other_ask; answer = lacked }

-- caller 0 called first, and has not seen what came then
abbrev history : List Entry
history = entry ∷ other_entry ∷ []

abbrev first : Account
first = account 0 (entry ∷ []) ((ask, told) ∷ [])

abbrev second : Account
second = account 1 history ((other_ask, lacked) ∷ [])

-- before they called
abbrev new_first : Account
new_first = account 0 [] []

abbrev new_second : Account
new_second = account 1 [] []

-- Steps

-- the roll leaves a new pen, and draws two numbers
roll_left : (without_roll (view_of [] [] (Some 0)) ≡ empty_view) × (roll_alone (view_of [] [] (Some 0)) ≡ roll_view 0)
roll_left = (refl, refl)

numbers_drawn : (with_draw (roll_view 0) ≡ roll_view 1) × (newcomer (roll_view 0) ≡ caller_view new_first)
    × (with_draw (roll_view 1) ≡ roll_view 2) × (newcomer (roll_view 1) ≡ caller_view new_second)
numbers_drawn = (refl, refl, refl, refl)

-- caller 1 comes where caller 0 has ended
abbrev both_there : View
both_there = view_of (entry ∷ []) (new_second ∷ first ∷ []) None

caller_came : with_accounts_of (view_of (entry ∷ []) (first ∷ []) None) (caller_view new_second) ≡ both_there
caller_came = refl

-- its call is entered, and it leaves
abbrev with_entry : View
with_entry = view_of history (account 1 [] ((other_ask, lacked) ∷ []) ∷ first ∷ []) None

call_entered : entered other_entry both_there ≡ with_entry
call_entered = refl

caller_left : (without_first with_entry ≡ view_of history (first ∷ []) None)
    × (first_alone with_entry ≡ caller_view second)
caller_left = (refl, refl)

-- the roll returns
roll_came : with_roll_of (view_of history (second ∷ first ∷ []) None) (roll_view 2)
    ≡ view_of history (second ∷ first ∷ []) (Some 2)
roll_came = refl

-- what a seat with no account, or with two, shows of its caller
accounts_shown : Gives first_number (([], None) ∷ (second ∷ first ∷ [], Some 1) ∷ [])
    × Gives seen_by (([], []) ∷ (second ∷ first ∷ [], history) ∷ [])
    × Gives calls_of (([], []) ∷ (first ∷ second ∷ [], (ask, told) ∷ []) ∷ [])
accounts_shown = (refl, refl, refl)

-- Counts

-- a pen at which caller 1 has ended, the seat of caller 0, that of the roll, and one that is spent
abbrev seats : List View
seats = view_of history (second ∷ []) None ∷ caller_view first ∷ roll_view 2 ∷ empty_view ∷ []

-- how often a number stands with a seat
numbers_counted : Gives2 times (
    (0, caller_view first, 1) ∷ (1, caller_view first, 0) ∷ (1, view_of history (second ∷ first ∷ second ∷ []) None, 2)
    ∷ (0, roll_view 2, 0)
    ∷ [])
numbers_counted = refl

-- how many numbers were drawn, as the one roll counts
all_counted : Gives all_drawn (([], 0) ∷ (seats, 2) ∷ (caller_view second ∷ view_of [] [] (Some 7) ∷ [], 7) ∷ [])
all_counted = refl

-- The rule

first_true : IsTrueOf history first
first_true = ((other_entry ∷ [], refl), refl)

second_true : IsTrueOf history second
second_true = (([], refl), refl)

one_account : (a : Account) → IsTrueOf history a → All (IsTrueOf history) (a ∷ [])
one_account a is_true = All-cons (IsTrueOf history) a [] is_true (All-nil (IsTrueOf history))

accounts_true : All (AreTrueOf history) seats
accounts_true =
    All-cons (AreTrueOf history) (view_of history (second ∷ []) None)
    (caller_view first ∷ roll_view 2 ∷ empty_view ∷ []) (one_account second second_true)
    (All-cons (AreTrueOf history) (caller_view first) (roll_view 2 ∷ empty_view ∷ []) (one_account first first_true)
    (All-cons (AreTrueOf history) (roll_view 2) (empty_view ∷ []) (All-nil (IsTrueOf history))
    (All-cons (AreTrueOf history) empty_view [] (All-nil (IsTrueOf history)) (All-nil (AreTrueOf history)))))

each_once : (number : ℕ) → total (times number) seats ≡ one_if (nat_lt number 2)
each_once number = grind (arith, tests)

no_stranger : (number : ℕ) → 2 ≤ number → dialog history number ≡ []
no_stranger number beyond = grind (arith, tests, beyond)

kept : Keeps history seats
kept = record { accounts = accounts_true; one_roll = refl; once = each_once; strangers = no_stranger }

-- a table of these seats, whose word is the length
met : IsHistory {S = Unit {0}} (record { words = 2 ∷ []; homes = []; views = seats })
met = (
  view_of history (second ∷ []) None,
  caller_view first ∷ roll_view 2 ∷ empty_view ∷ [],
  refl,
  refl,
  All-cons KnowsNone (caller_view first) (roll_view 2 ∷ empty_view ∷ []) refl
      (All-cons KnowsNone (roll_view 2) (empty_view ∷ []) refl
      (All-cons KnowsNone empty_view [] refl (All-nil KnowsNone))),
  kept,
)

-- What the rule refuses

apart : (n m : ℕ) → n < m → ¬ (n ≡ m)
apart n m below is = omega (arith, below, is)

words_apart : (n m : ℕ) → n < m → ¬ (n ∷ [] ≡ m ∷ [])
words_apart n m below is = apart n m below (cc is)

-- a word that is not the length
miscounted : ¬ IsHistory {S = Unit {0}} (record { words = 1 ∷ []; homes = []; views = seats })
miscounted rule =
    let pen : view_of history (second ∷ []) None ≡ rule.0 = cc rule.2 in
    let two : (length rule.0.seen % 2 ^ 64) ∷ [] ≡ 2 ∷ [] =
    ap (λ (view : View). (length view.seen % 2 ^ 64) ∷ []) (sym pen) in
    words_apart 1 2 (omega arith) (rule.3 ∙ two)

-- a number in two places, a number that was drawn in none, and one that stands there and was not drawn
twice : ¬ Keeps history (caller_view first ∷ seats)
twice keeps = apart 1 2 (omega arith) (sym (keeps.once 0))

nowhere : ¬ Keeps history (view_of history (second ∷ []) None ∷ roll_view 2 ∷ [])
nowhere keeps = apart 0 1 (omega arith) (keeps.once 0)

undrawn : ¬ Keeps history (view_of history (second ∷ first ∷ []) (Some 1) ∷ [])
undrawn keeps = apart 0 1 (omega arith) (sym (keeps.once 1))

-- no roll, and two
no_roll : ¬ Keeps history (view_of history (second ∷ first ∷ []) None ∷ [])
no_roll keeps = apart 0 1 (omega arith) keeps.one_roll

two_rolls : ¬ Keeps history (roll_view 0 ∷ seats)
two_rolls keeps = apart 1 2 (omega arith) (sym keeps.one_roll)

-- an entry of a number that was not drawn
stranger : ¬ Keeps history (view_of history (first ∷ []) (Some 1) ∷ [])
stranger keeps = let none : (other_ask, lacked) ∷ [] ≡ [] = keeps.strangers 1 (omega arith) in cc none

-- an account that lacks a call, or has seen what is not there
forgetful : ¬ IsTrueOf history new_first
forgetful is_true = let none : (ask, told) ∷ [] ≡ [] = is_true.1 in cc none

dreaming : ¬ IsTrueOf history (account 0 (other_entry ∷ []) ((ask, told) ∷ []))
dreaming is_true =
    let same : other_entry ∷ is_true.0.0 ≡ entry ∷ other_entry ∷ [] = is_true.0.1 in
    let heads : other_entry ≡ entry = cc same in
    apart 0 1 (omega arith) (sym (ap (λ (e : Entry). e.number) heads))

-- What a look tells

-- caller 1 came last to a pen with the roll
seen_at_pen : IsTold (view_of history (second ∷ first ∷ []) (Some 2))
seen_at_pen = (second_true, no_stranger)

-- a roll that lacks a number tells what is not so
told_amiss : ¬ IsTold (view_of history [] (Some 1))
told_amiss tells = let none : (other_ask, lacked) ∷ [] ≡ [] = tells.1 1 (omega arith) in cc none
