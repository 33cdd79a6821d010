-- A call is entered.
use Rattle.std.proofs.Common.{◌≡◌, ℕ, ◌+◌, ◌≤◌, ◌<◌, ◌%◌, ◌^◌, ◌==◌, nat_lt, append-nil, append_assoc, length-append}
use Rattle.std.proofs.Common.{tests, Option, Some, List, [], ◌∷◌, ◌++◌, length, All, refl, ap, sym, ◌∙◌, subst, arith}
use Rattle.std.proofs.Math.Nat.{mod-add-mod}
use Rattle.std.proofs.lemmas.List.Elements.{All-cons, All-head, All-nil, All-tail, filter_map-append}
use mathlib.Core.List.{IsPrefix}
use Rattle.atomic_table.specs.Table.{Allows, Me, keeps}
use Rattle.skk_calls.specs.declared.answer.Answer.{Answer}
use Rattle.skk_calls.specs.declared.call.Call.{Call}
use Rattle.skk_calls.specs.declared.entry.Entry.{Entry}
use Rattle.skk_calls.specs.Histories.{dialog, said_by}
use Rattle.desk_history.specs.declared.view.Account.{Account}
use Rattle.desk_history.specs.declared.view.View.{View}
use Rattle.desk_history.specs.Keeping.{AreTrueOf, IsHistory, IsTrueOf, Keeps, all_drawn, one_if, times, total}
use Rattle.desk_history.specs.Seats.{first_number}
use Rattle.desk_history.specs.Steps.{entered}
use Rattle.desk_history.specs.Views.{account, view_of}
use Rattle.desk_history.proofs.Counts.{first-there}
use Rattle.desk_history.proofs.Looking.{pen-sees, pen-set, word-set}

-- an entry's caller said its call
own-entry : (number : ℕ) (call : Call) (answer : Answer)
    → dialog (record { number = number; call = call; answer = answer } ∷ []) number ≡ (call, answer) ∷ []
own-entry number call answer = grind (arith, tests)

-- and another caller said nothing by it
other-entry : (entry : Entry) (number : ℕ) → ¬ (entry.number ≡ number) → dialog (entry ∷ []) number ≡ []
other-entry entry number apart = grind (arith, tests, apart)

-- how often a number stands among accounts
abbrev among : ℕ → List Account → ℕ
among number accounts = total (λ (a : Account). one_if (a.number == number)) accounts

apart-from : (number other : ℕ) → one_if (other == number) ≡ 0 → ¬ (number ≡ other)
apart-from number other none is = grind (arith, tests, none, is)

own-counts : (number : ℕ) → one_if (number == number) ≡ 1
own-counts number = grind (arith, tests)

at-most-one : (number drawn : ℕ) → one_if (nat_lt number drawn) ≤ 1
at-most-one number drawn = grind (arith, tests)

was-drawn : (number drawn : ℕ) → 1 ≤ one_if (nat_lt number drawn) → number < drawn
was-drawn number drawn one = grind (arith, tests, one)

module _ (history : List Entry) (entry : Entry) where
  -- what begins the history begins the longer one
  begins-on : (seen : List Entry) → IsPrefix seen history → IsPrefix seen (history ++ entry ∷ [])
  begins-on seen begins = (
    begins.0 ++ entry ∷ [],
    sym (append_assoc seen begins.0 (entry ∷ [])) ∙ ap (λ es. es ++ entry ∷ []) begins.1,
  )

  -- an entry of another number adds nothing to a dialog
  other-dialog : (number : ℕ) → ¬ (entry.number ≡ number)
      → dialog (history ++ entry ∷ []) number ≡ dialog history number
  other-dialog number apart =
      filter_map-append (said_by number) history (entry ∷ [])
      ∙ (ap (λ said. dialog history number ++ said) (other-entry entry number apart)
      ∙ append-nil (dialog history number))

  -- the accounts of other numbers stay true
  true-on : (accounts : List Account) → All (IsTrueOf history) accounts → among entry.number accounts ≡ 0
      → All (IsTrueOf (history ++ entry ∷ [])) accounts
  true-on [] are none = All-nil (IsTrueOf (history ++ entry ∷ []))
  true-on (first ∷ accounts) are none =
      let here : one_if (first.number == entry.number) ≡ 0 = omega arith in
      let is_true : IsTrueOf history first = All-head (IsTrueOf history) first accounts are in
      All-cons (IsTrueOf (history ++ entry ∷ [])) first accounts (
        begins-on first.seen is_true.0,
        other-dialog first.number (apart-from entry.number first.number here) ∙ is_true.1,
      )
      (true-on accounts (All-tail (IsTrueOf history) first accounts are) (omega arith))

  all-true-on : (views : List View) → All (AreTrueOf history) views → total (times entry.number) views ≡ 0
      → All (AreTrueOf (history ++ entry ∷ [])) views
  all-true-on [] are none = All-nil (AreTrueOf (history ++ entry ∷ []))
  all-true-on (view ∷ views) are none =
      All-cons (AreTrueOf (history ++ entry ∷ [])) view views
      (true-on view.accounts (All-head (AreTrueOf history) view views are) (omega arith))
      (all-true-on views (All-tail (AreTrueOf history) view views are) (omega arith))

module _ (history : List Entry) (first : Account) (accounts : List Account) (roll : Option ℕ) (others : List View)
    (call : Call) (answer : Answer) where
  abbrev pen : View
  pen = view_of history (first ∷ accounts) roll

  abbrev entry : Entry
  entry = record { number = first.number; call = call; answer = answer }

  -- the caller's account with the call is true
  grown : IsTrueOf history first
      → IsTrueOf (history ++ entry ∷ []) (account first.number first.seen (first.mine ++ (call, answer) ∷ []))
  grown is_true = (
    begins-on history entry first.seen is_true.0,
    filter_map-append (said_by first.number) history (entry ∷ [])
        ∙ (ap (λ said. said ++ dialog (entry ∷ []) first.number) is_true.1
        ∙ ap (λ said. first.mine ++ said) (own-entry first.number call answer)),
  )

  pub entered-keeps : Keeps history (pen ∷ others) → Keeps (history ++ entry ∷ []) (entered entry pen ∷ others)
  entered-keeps kept =
      let drawn : ℕ = all_drawn (pen ∷ others) in
      let here = own-counts first.number in
      let once = kept.once first.number in
      let most = at-most-one first.number drawn in
      let among_drawn : first.number < drawn = was-drawn first.number drawn (omega (arith, here, once)) in
      let at_pen : All (IsTrueOf history) (first ∷ accounts) =
      All-head (AreTrueOf history) pen others kept.accounts in
      let is_true : IsTrueOf history first = All-head (IsTrueOf history) first accounts at_pen in
      record {
        accounts =
            All-cons (AreTrueOf (history ++ entry ∷ [])) (entered entry pen) others
            (All-cons (IsTrueOf (history ++ entry ∷ []))
            (account first.number first.seen (first.mine ++ (call, answer) ∷ [])) accounts (grown is_true)
            (true-on history entry accounts (All-tail (IsTrueOf history) first accounts at_pen)
            (omega (arith, here, once, most))))
            (all-true-on history entry others (All-tail (AreTrueOf history) pen others kept.accounts)
            (omega (arith, here, once, most)));
        one_roll = kept.one_roll;
        once = kept.once;
        strangers = λ n beyond.
            other-dialog history entry n (λ is. omega (arith, among_drawn, beyond, is)) ∙ kept.strangers n beyond;
      }

-- the word counts the entry
counted : (history : List Entry) (entry : Entry)
    → (length history % 2 ^ 64 + 1) % 2 ^ 64 ≡ length (history ++ entry ∷ []) % 2 ^ 64
counted history entry =
    mod-add-mod (length history) (2 ^ 64) 1 ∙ ap (λ n. n % 2 ^ 64) (sym (length-append history (entry ∷ [])))

-- the step of a call
pub enters : {S : Type 0} (slots : ℕ) (entry : Entry) (id : ℕ) (me : Me S View) → id ≡ 0
    → first_number me.0.accounts ≡ Some entry.number
    → Allows IsHistory slots id me 0 (λ n. (n + 1) % 2 ^ 64) (λ _ after. after ≡ (entered entry me.0, me.1))
enters slots entry id me zero_is first_is state rule homes at fits =
    let sees = pen-sees state id me.0 zero_is at rule in
    let there = first-there me.0.accounts entry.number first_is in
    let own : Entry = record { number = there.0.number; call = entry.call; answer = entry.answer } in
    let same : own ≡ entry = ap (λ n. record { number = n; call = entry.call; answer = entry.answer }) there.3 in
    let pen = view_of me.0.seen (there.0 ∷ there.1) me.0.roll in
    let is : me.0 ≡ pen = ap (λ all. view_of me.0.seen all me.0.roll) there.2 in
    let kept : Keeps (me.0.seen ++ own ∷ []) (entered own pen ∷ sees.others) =
    entered-keeps me.0.seen there.0 there.1 me.0.roll sees.others entry.call entry.answer
    (subst (λ (view : View). Keeps me.0.seen (view ∷ sees.others)) is sees.kept) in
    let kept' : Keeps (me.0.seen ++ entry ∷ []) (entered entry me.0 ∷ sees.others) =
    subst (λ (view : View). Keeps (me.0.seen ++ entry ∷ []) (entered entry view ∷ sees.others)) (sym is)
    (subst (λ (e : Entry). Keeps (me.0.seen ++ e ∷ []) (entered e pen ∷ sees.others)) same kept) in (
      entered entry me.0,
      keeps,
      tt,
      (
        entered entry me.0,
        sees.others,
        pen-set state.views id me.0 (entered entry me.0) sees.others zero_is sees.views,
        word-set state.words (length me.0.seen % 2 ^ 64) (λ n. (n + 1) % 2 ^ 64) sees.counted
            ∙ ap (λ n. n ∷ []) (counted me.0.seen entry),
        sees.none,
        kept',
      ),
      refl,
    )
