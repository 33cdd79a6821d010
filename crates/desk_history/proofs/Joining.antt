-- A seat takes in another.
use Rattle.std.proofs.Common.{◌≡◌, ℕ, ◌+◌, ◌≤◌, nat_lt, append-nil, List, [], ◌∷◌}
use Rattle.std.proofs.Common.{refl, ap, sym, ◌∙◌, subst, arith}
use Rattle.std.proofs.lemmas.List.Elements.{All-append, All-nil, All-set}
use Rattle.std.specs.Prelude.{slice_set}
use mathlib.Core.Option.{some}
use lib.ListN.{get_elem?}
use Rattle.atomic_table.specs.Table.{Joins}
use Rattle.atomic_table.proofs.Lists.{set_else}
use Rattle.skk_calls.specs.declared.entry.Entry.{Entry}
use Rattle.desk_history.specs.declared.view.Account.{Account}
use Rattle.desk_history.specs.declared.view.View.{View}
use Rattle.desk_history.specs.Keeping.{AreTrueOf, IsHistory, IsTrueOf, Keeps, KnowsNone, all_drawn, drawn_by, one_if}
use Rattle.desk_history.specs.Keeping.{rolls, times, total}
use Rattle.desk_history.specs.Steps.{with_accounts_of, with_roll_of}
use Rattle.desk_history.specs.Views.{caller_view, empty_view, roll_view}
use Rattle.desk_history.proofs.Counts.{All-at, none-drawn, part-within, total-set}
use Rattle.desk_history.proofs.Cuts.{Headed, headed, met}

-- what a join owes of its views alone, of which one at most has the roll
pub record Joined (one other both : View) : Type 0 where
  pub seen : both.seen ≡ one.seen
  pub none : other.seen ≡ []
  pub accounts : (history : List Entry) → AreTrueOf history one → AreTrueOf history other → AreTrueOf history both
  pub roll : rolls one.roll + rolls other.roll ≤ 1 → rolls both.roll ≡ rolls one.roll + rolls other.roll
  pub drawn : rolls one.roll + rolls other.roll ≤ 1 → drawn_by both.roll ≡ drawn_by one.roll + drawn_by other.roll
  pub times : (number : ℕ) → times number both ≡ times number one + times number other

-- the second of two seats stands where it stood, whatever the first becomes
pub still-there : (views : List View) (k j : ℕ) (new other : View) → ¬ (j ≡ k)
    → get_elem? (slice_set views k new) j ≡ some other → get_elem? views j ≡ some other
still-there views k j new other apart there = sym (set_else views k j new apart) ∙ there

-- two seats have no more rolls than there are
two-within : (views : List View) (k j : ℕ) (one other : View) → ¬ (j ≡ k) → get_elem? views k ≡ some one
    → get_elem? views j ≡ some other → rolls one.roll + rolls other.roll ≤ total (λ view. rolls view.roll) views
two-within views k j one other apart at there =
    let f : View → ℕ = λ view. rolls view.roll in
    let left = part-within f (slice_set views k empty_view) j other (set_else views k j empty_view apart ∙ there) in
    omega (arith, total-set f views k one empty_view at, left)

-- all seats together keep the history
join-keeps : (history : List Entry) (views : List View) (k j : ℕ) (one other both : View) → Joined one other both
    → ¬ (j ≡ k) → get_elem? views k ≡ some one → get_elem? (slice_set views k both) j ≡ some other
    → Keeps history views → Keeps history (slice_set (slice_set views k both) j empty_view)
join-keeps history views k j one other both join apart at there kept =
    let after : List View = slice_set (slice_set views k both) j empty_view in
    let there' = still-there views k j both other apart there in
    let are = join.accounts history (All-at (AreTrueOf history) views k one kept.accounts at)
    (All-at (AreTrueOf history) views j other kept.accounts there') in
    let joined : List View = slice_set views k both in
    let sum : (f : View → ℕ) → total f after + f one + f other ≡ total f views + f both + f empty_view =
    λ f. omega (arith, total-set f views k one both at, total-set f joined j other empty_view there) in
    let within : rolls one.roll + rolls other.roll ≤ 1 =
    omega (arith, two-within views k j one other apart at there', kept.one_roll) in
    let drawn : all_drawn after ≡ all_drawn views =
    omega (arith, sum (λ (view : View). drawn_by view.roll), join.drawn within) in
    record {
      accounts =
          All-set (AreTrueOf history) (slice_set views k both) j empty_view (All-nil (IsTrueOf history))
          (All-set (AreTrueOf history) views k both are kept.accounts);
      one_roll = omega (arith, sum (λ (view : View). rolls view.roll), join.roll within, kept.one_roll);
      once = λ n.
          omega (arith, sum (times n), kept.once n, join.times n, ap (λ d. one_if (nat_lt n d)) drawn);
      strangers = λ n beyond. kept.strangers n (omega (arith, drawn));
    }

pub joins : {S : Type 0} (k j : ℕ) (one other both : View) → Joined one other both
    → Joins (IsHistory {S = S}) k one j other both empty_view
joins k j one other both join state rule at apart there =
    let pen = rule.0 in
    let others = rule.1 in
    let at' : get_elem? (pen ∷ others) k ≡ some one = subst (λ views. get_elem? views k ≡ some one) rule.2 at in
    let there' : get_elem? (slice_set (pen ∷ others) k both) j ≡ some other =
    subst (λ views. get_elem? (slice_set views k both) j ≡ some other) rule.2 there in
    let first : Headed pen.seen (slice_set (pen ∷ others) k both) =
    subst (Headed pen.seen) (append-nil (slice_set (pen ∷ others) k both))
    (headed pen others [] k one both rule.4 (All-nil KnowsNone) at' join.seen) in
    let after : List View = slice_set (slice_set (pen ∷ others) k both) j empty_view in
    let second : Headed first.pen.seen (slice_set (first.pen ∷ first.others) j empty_view) =
    subst (Headed first.pen.seen) (append-nil (slice_set (first.pen ∷ first.others) j empty_view))
    (headed first.pen first.others [] j other empty_view first.none (All-nil KnowsNone)
    (subst (λ views. get_elem? views j ≡ some other) first.are there') (sym join.none)) in
    let both_are : Headed pen.seen after =
    subst (λ views. Headed pen.seen (slice_set views j empty_view)) (sym first.are)
    (subst (λ seen. Headed seen (slice_set (first.pen ∷ first.others) j empty_view)) first.knows second) in
    subst (λ views. IsHistory (record { words = state.words; homes = state.homes; views = views }))
    (sym (ap (λ views. slice_set (slice_set views k both) j empty_view) rule.2))
    (met state pen.seen after both_are rule.3
    (join-keeps pen.seen (pen ∷ others) k j one other both join apart at' there' rule.5))

caller-comes : (pen : View) (account : Account)
    → Joined pen (caller_view account) (with_accounts_of pen (caller_view account))
caller-comes pen account = record {
  seen = refl;
  none = refl;
  accounts = λ history are come. All-append (IsTrueOf history) (account ∷ []) pen.accounts come are;
  roll = λ within. omega arith;
  drawn = λ within. omega arith;
  times = λ number. omega arith;
}

roll-returns : (pen : View) (drawn : ℕ) → Joined pen (roll_view drawn) (with_roll_of pen (roll_view drawn))
roll-returns pen drawn = record {
  seen = refl;
  none = refl;
  accounts = λ history are none. are;
  roll = λ within. omega arith;
  drawn = λ within. omega (arith, none-drawn pen.roll (omega arith));
  times = λ number. omega arith;
}

-- the joins as their calls ask for them
pub caller-comes-joins : {S : Type 0} (k j : ℕ) (pen seat : View) (account : Account) → seat ≡ caller_view account
    → Joins (IsHistory {S = S}) k pen j seat (with_accounts_of pen seat) empty_view
caller-comes-joins {S} k j pen seat account is =
    subst (λ view. Joins (IsHistory {S = S}) k pen j view (with_accounts_of pen view) empty_view) (sym is)
    (joins k j pen (caller_view account) (with_accounts_of pen (caller_view account)) (caller-comes pen account))

pub roll-returns-joins : {S : Type 0} (k j : ℕ) (pen seat : View) (drawn : ℕ) → seat ≡ roll_view drawn
    → Joins (IsHistory {S = S}) k pen j seat (with_roll_of pen seat) empty_view
roll-returns-joins {S} k j pen seat drawn is =
    subst (λ view. Joins (IsHistory {S = S}) k pen j view (with_roll_of pen view) empty_view) (sym is)
    (joins k j pen (roll_view drawn) (with_roll_of pen (roll_view drawn)) (roll-returns pen drawn))
