-- A seat is cut in two.
use Rattle.std.proofs.Common.{◌≡◌, ℕ, zero, suc, ◌+◌, ◌≤◌, ◌%◌, ◌^◌, ◌==◌, nat_lt, append-nil, tests, Option, Some}
use Rattle.std.proofs.Common.{List, [], ◌∷◌, ◌++◌, length, All, refl, ap, sym, ◌∙◌, subst, arith}
use Rattle.std.proofs.lemmas.List.Elements.{All-append, All-cons, All-head, All-nil, All-set, All-tail}
use Rattle.std.specs.Prelude.{slice_set}
use mathlib.Core.Option.{some, some-injective}
use lib.ListN.{get_elem?}
use Rattle.atomic_table.specs.Table.{Splits, State}
use Rattle.skk_calls.specs.declared.entry.Entry.{Entry}
use Rattle.skk_calls.specs.Histories.{dialog}
use Rattle.desk_history.specs.declared.view.Account.{Account}
use Rattle.desk_history.specs.declared.view.View.{View}
use Rattle.desk_history.specs.Keeping.{AreTrueOf, IsHistory, IsTrueOf, Keeps, KnowsNone, all_drawn, drawn_by, one_if}
use Rattle.desk_history.specs.Keeping.{rolls, times, total}
use Rattle.desk_history.specs.Seats.{first_number}
use Rattle.desk_history.specs.Steps.{first_alone, newcomer, roll_alone, with_draw, without_first, without_roll}
use Rattle.desk_history.specs.Views.{account, accounts_view, caller_view, empty_view, roll_view, view_of}
use Rattle.desk_history.proofs.Counts.{All-at, first-there, roll-counts-all, total-append, total-set}

-- seats of which the first knows the history and no other does, as a list of seats that a step left
pub record Headed (history : List Entry) (views : List View) : Type 0 where
  pub pen : View
  pub others : List View
  pub are : views ≡ pen ∷ others
  pub knows : pen.seen ≡ history
  pub none : All KnowsNone others

-- one seat changes and knows as much of the history as before, and there are new seats that know none
pub headed : (pen : View) (others more : List View) (k : ℕ) (old new : View) → All KnowsNone others → All KnowsNone more
    → get_elem? (pen ∷ others) k ≡ some old → new.seen ≡ old.seen
    → Headed pen.seen (slice_set (pen ∷ others) k new ++ more)
headed pen others more zero old new none none_more at same =
    record {
      pen = new;
      others = others ++ more;
      are = refl;
      knows = same ∙ ap (λ (view : View). view.seen) (sym (some-injective pen old at));
      none = All-append KnowsNone others more none none_more;
    }
headed pen others more (suc k) old new none none_more at same =
    record {
      pen = pen;
      others = slice_set others k new ++ more;
      are = refl;
      knows = refl;
      none =
          All-append KnowsNone (slice_set others k new) more
          (All-set KnowsNone others k new (same ∙ All-at KnowsNone others k old none at) none) none_more;
    }

-- the first seat is the pen's
pen-first : (pen : View) (others : List View) (k : ℕ) (view : View) → get_elem? (pen ∷ others) k ≡ some view → k ≡ 0
    → view.seen ≡ pen.seen
pen-first pen others zero view at first = ap (λ (v : View). v.seen) (sym (some-injective pen view at))
pen-first pen others (suc k) view at first = absurd (omega arith)

-- a state meets the rule with such seats in place of its own
pub met : {S : Type 0} (state : State S View) (history : List Entry) (views : List View) → Headed history views
    → state.words ≡ (length history % 2 ^ 64) ∷ [] → Keeps history views
    → IsHistory {S = S} (record { words = state.words; homes = state.homes; views = views })
met state history views head counted kept = (
  head.pen,
  head.others,
  head.are,
  counted ∙ ap (λ (seen : List Entry). (length seen % 2 ^ 64) ∷ []) (sym head.knows),
  head.none,
  subst (λ vs. Keeps head.pen.seen vs) head.are (subst (λ seen. Keeps seen views) (sym head.knows) kept),
)

-- what a cut owes of its views alone, where it draws this many numbers: whatever history the seats keep, of which
-- `drawn` numbers were drawn
pub record Cuts (k : ℕ) (old left right : View) (more : ℕ) : Type 0 where
  pub seen : left.seen ≡ old.seen
  pub none : right.seen ≡ []
  pub accounts : (history : List Entry) (drawn : ℕ) → (k ≡ 0 → old.seen ≡ history)
      → ((n : ℕ) → old.roll ≡ Some n → drawn ≡ n) → ((n : ℕ) → drawn ≤ n → dialog history n ≡ [])
      → AreTrueOf history old → AreTrueOf history left × AreTrueOf history right
  pub roll : rolls left.roll + rolls right.roll ≡ rolls old.roll
  pub drawn : drawn_by left.roll + drawn_by right.roll ≡ drawn_by old.roll + more
  pub times : (number drawn after : ℕ) → after ≡ drawn + more → ((n : ℕ) → old.roll ≡ Some n → drawn ≡ n)
      → times number left + times number right + one_if (nat_lt number drawn)
      ≡ times number old + one_if (nat_lt number after)

-- all seats together keep the history then
cut-keeps : (history : List Entry) (views : List View) (k : ℕ) (old left right : View) (more : ℕ)
    → Cuts k old left right more → (k ≡ 0 → old.seen ≡ history) → get_elem? views k ≡ some old → Keeps history views
    → Keeps history (slice_set views k left ++ right ∷ [])
cut-keeps history views k old left right more cut whole at kept =
    let after : List View = slice_set views k left ++ right ∷ [] in
    let counts : (n : ℕ) → old.roll ≡ Some n → all_drawn views ≡ n =
    λ n is. roll-counts-all views k old n kept.one_roll at is in
    let both = cut.accounts history (all_drawn views) whole counts kept.strangers
    (All-at (AreTrueOf history) views k old kept.accounts at) in
    let sum : (f : View → ℕ) → total f after + f old ≡ total f views + f left + f right =
    λ f. omega (arith, total-set f views k old left at, total-append f (slice_set views k left) (right ∷ [])) in
    let drawn : all_drawn after ≡ all_drawn views + more =
    omega (arith, sum (λ (view : View). drawn_by view.roll), cut.drawn) in
    record {
      accounts =
          All-append (AreTrueOf history) (slice_set views k left) (right ∷ [])
          (All-set (AreTrueOf history) views k left both.0 kept.accounts)
          (All-cons (AreTrueOf history) right [] both.1 (All-nil (AreTrueOf history)));
      one_roll = omega (arith, sum (λ (view : View). rolls view.roll), cut.roll, kept.one_roll);
      once = λ n.
          omega (arith, sum (times n), kept.once n, cut.times n (all_drawn views) (all_drawn after) drawn counts);
      strangers = λ n beyond. kept.strangers n (omega (arith, drawn));
    }

pub cuts : {S : Type 0} (k : ℕ) (old left right : View) (more : ℕ) → Cuts k old left right more
    → Splits (IsHistory {S = S}) k old left right
cuts k old left right more cut state rule at =
    let pen = rule.0 in
    let others = rule.1 in
    let at' : get_elem? (pen ∷ others) k ≡ some old = subst (λ views. get_elem? views k ≡ some old) rule.2 at in
    let after : List View = slice_set (pen ∷ others) k left ++ right ∷ [] in
    subst (λ views. IsHistory (record { words = state.words; homes = state.homes; views = views }))
    (sym (ap (λ views. slice_set views k left ++ right ∷ []) rule.2))
    (met state pen.seen after
    (headed pen others (right ∷ []) k old left rule.4 (All-cons KnowsNone right [] cut.none (All-nil KnowsNone)) at'
    cut.seen)
    rule.3
    (cut-keeps pen.seen (pen ∷ others) k old left right more cut (pen-first pen others k old at') at' rule.5))

-- one number more stands in a place where one number more was drawn
once-more : (number drawn : ℕ)
    → one_if (drawn == number) + one_if (nat_lt number drawn) ≡ one_if (nat_lt number (drawn + 1))
once-more number drawn = grind (arith, tests)

-- where none is drawn, as many numbers were drawn
same-drawn : (number drawn after : ℕ) → after ≡ drawn + 0 → one_if (nat_lt number after) ≡ one_if (nat_lt number drawn)
same-drawn number drawn after is = ap (λ n. one_if (nat_lt number n)) (omega arith)

roll-leaves : (k : ℕ) (pen : View) → Cuts k pen (without_roll pen) (roll_alone pen) 0
roll-leaves k pen = record {
  seen = refl;
  none = refl;
  accounts = λ history drawn whole counts strangers are. (are, All-nil (IsTrueOf history));
  roll = omega arith;
  drawn = omega arith;
  times = λ number drawn after is counts. omega (arith, same-drawn number drawn after is);
}

roll-draws : (k drawn : ℕ)
    → Cuts k (roll_view drawn) (roll_view (drawn + 1)) (caller_view (account drawn [] [])) 1
roll-draws k drawn = record {
  seen = refl;
  none = refl;
  accounts = λ history all whole counts strangers are. (
    All-nil (IsTrueOf history),
    All-cons (IsTrueOf history) (account drawn [] []) []
        ((history, refl), strangers drawn (omega (arith, counts drawn refl))) (All-nil (IsTrueOf history)),
  );
  roll = omega arith;
  drawn = omega arith;
  times = λ number all after is counts.
      let same : all ≡ drawn = counts drawn refl in
      let now : after ≡ drawn + 1 = is ∙ ap (λ n. n + 1) same in
      let f : ℕ → ℕ = λ n. one_if (nat_lt number n) in
      omega (arith, once-more number drawn, ap f same, ap f now);
}

caller-leaves : (seen : List Entry) (first : Account) (accounts : List Account) (roll : Option ℕ)
    → Cuts 0 (view_of seen (first ∷ accounts) roll) (view_of seen accounts roll)
    (caller_view (account first.number seen first.mine)) 0
caller-leaves seen first accounts roll = record {
  seen = refl;
  none = refl;
  accounts = λ history drawn whole counts strangers are.
      let is_true : IsTrueOf history first = All-head (IsTrueOf history) first accounts are in (
        All-tail (IsTrueOf history) first accounts are,
        All-cons (IsTrueOf history) (account first.number seen first.mine) []
            (([], append-nil seen ∙ whole refl), is_true.1) (All-nil (IsTrueOf history)),
      );
  roll = omega arith;
  drawn = omega arith;
  times = λ number drawn after is counts. omega (arith, same-drawn number drawn after is);
}

hands-over : (k : ℕ) (accounts : List Account) → Cuts k (accounts_view accounts) empty_view (accounts_view accounts) 0
hands-over k accounts = record {
  seen = refl;
  none = refl;
  accounts = λ history drawn whole counts strangers are. (All-nil (IsTrueOf history), are);
  roll = omega arith;
  drawn = omega arith;
  times = λ number drawn after is counts. omega (arith, same-drawn number drawn after is);
}

-- the cuts as their calls ask for them
pub roll-leaves-splits : {S : Type 0} (k : ℕ) (pen : View)
    → Splits (IsHistory {S = S}) k pen (without_roll pen) (roll_alone pen)
roll-leaves-splits k pen = cuts k pen (without_roll pen) (roll_alone pen) 0 (roll-leaves k pen)

pub roll-draws-splits : {S : Type 0} (k drawn : ℕ) (seat : View) → seat ≡ roll_view drawn
    → Splits (IsHistory {S = S}) k seat (with_draw seat) (newcomer seat)
roll-draws-splits {S} k drawn seat is =
    subst (λ view. Splits (IsHistory {S = S}) k view (with_draw view) (newcomer view)) (sym is)
    (cuts k (roll_view drawn) (roll_view (drawn + 1)) (caller_view (account drawn [] [])) 1 (roll-draws k drawn))

pub caller-leaves-splits : {S : Type 0} (k : ℕ) (pen : View) (number : ℕ) → k ≡ 0
    → first_number pen.accounts ≡ Some number
    → Splits (IsHistory {S = S}) k pen (without_first pen) (first_alone pen)
caller-leaves-splits {S} k pen number zero_is is =
    let there = first-there pen.accounts number is in
    let first = there.0 in
    let others = there.1 in
    subst (λ i. Splits (IsHistory {S = S}) i pen (without_first pen) (first_alone pen)) (sym zero_is)
    (subst (λ all. let view = view_of pen.seen all pen.roll in
    Splits (IsHistory {S = S}) 0 view (without_first view) (first_alone view)) (sym there.2)
    (cuts 0 (view_of pen.seen (first ∷ others) pen.roll) (view_of pen.seen others pen.roll)
    (caller_view (account first.number pen.seen first.mine)) 0 (caller-leaves pen.seen first others pen.roll)))

pub hands-over-splits : {S : Type 0} (k : ℕ) (accounts : List Account) (seat : View) → seat ≡ accounts_view accounts
    → Splits (IsHistory {S = S}) k seat empty_view seat
hands-over-splits {S} k accounts seat is =
    subst (λ view. Splits (IsHistory {S = S}) k view empty_view view) (sym is)
    (cuts k (accounts_view accounts) empty_view (accounts_view accounts) 0 (hands-over k accounts))
