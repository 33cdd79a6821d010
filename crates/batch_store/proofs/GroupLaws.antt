-- Laws of a group of learnings: each changes something at the state after those before it exactly where it does at the
-- state before the group, and so what a group leaves in a history where it was served, and where a disk failed it.
use Rattle.std.proofs.Common.{◌≡◌, ◌==◌, ℕ, ◌+◌, ◌<◌, ◌≤◌, nat_lt, Bool, true, false, not, cond, Option, Some}
use Rattle.std.proofs.Common.{List, [], ◌∷◌, ◌++◌, length, map, refl}
use Rattle.std.proofs.Common.{sym, ap, ◌∙◌, subst, arith, append_assoc, append-nil}
use Rattle.std.specs.Prelude.{⊤}
use Rattle.std.specs.List.{All, filter, list_all}
use Rattle.std.proofs.lemmas.Bool.{and_parts, eqb-true, not-false, not-true}
use Rattle.std.proofs.lemmas.Bool.Decides.{nat_tests}
use Rattle.std.proofs.lemmas.List.Elements.{All-cons, All-head, All-nil, All-tail}
use Rattle.skk_text.specs.Counts.{last_count}
use Rattle.skk_text.specs.Pairs.{all_pairs}
use Rattle.skk_calls.specs.KeyLaws.{same_key_itself}
use Rattle.skk_calls.specs.declared.answer.Answer.{Answer}
use Rattle.skk_calls.specs.declared.answer.Answer.TheVariants.{Done, Refused}
use Rattle.skk_calls.specs.declared.answer.Refusal.TheVariants as refusals
use Rattle.skk_calls.specs.declared.answer.Reply.TheVariants.{Learned as learned_reply, StampsEnd, TooBig}
use Rattle.skk_calls.specs.declared.call.Call.{Call}
use Rattle.skk_calls.specs.declared.call.Call.TheVariants.{Lookup, Complete, Learn, Purge, Annotate, Share, Unlearn}
use Rattle.skk_calls.specs.declared.entry.Entry.{Entry}
use Rattle.skk_calls.specs.Canonical.{line_limit}
use Rattle.skk_calls.specs.Chronicles.{history_of}
use Rattle.skk_calls.specs.Dictionary.{after, answer, is_change, line_length, moves}
use Rattle.skk_calls.specs.Histories.{after_answer, after_calls, in_doubt, in_doubt_after, state_after}
use Rattle.skk_calls.specs.Learning.{learnt}
use Rattle.skk_calls.specs.Rows.{RowKey, Cand, Learned, Row, same_key}
use Rattle.skk_calls.specs.States.{State, book_count, count_of, row_at}
use Rattle.dict_laws.specs.ChangedStates.{after_moved, count_of_changed}
use Rattle.dict_laws.specs.OtherRows.{book_at_other, row_at_other_key}
use Rattle.learn_index.specs.declared.plan.Plan.{Plan}
use Rattle.learn_index.specs.declared.plan.Plan.TheVariants.{Still, Move, Lists}
use Rattle.learn_index.specs.Groups.{ArePlanned, IsGroup, book_of_group, learn_apart, learns_in}
use Rattle.learn_index.specs.Plans.{IsPlanned}
use Rattle.batch_store.specs.Entries.{all_served, answer_planned, entered, failed, served}
use Rattle.batch_store.proofs.GroupTold.{after_still}

-- One learning

-- a number below another is not the same
not_same : (number limit : ℕ) → number < limit → (number == limit) ≡ false
not_same number limit low = grind (arith, nat_tests)

-- a reply that says what was learnt unless a row is too big tells of a change unless it is
changes_unless : (long : Bool) (size : ℕ) (learned : Learned)
    → is_change (cond long (TooBig size) (learned_reply learned)) ≡ not long
changes_unless true size learned = refl
changes_unless false size learned = refl

module _ (book : ℕ) (key : RowKey) (okuri : Option (List ℕ)) (cand : Cand) where
  -- the bytes of the line that a learning makes of a row; its stamp has no say in them
  abbrev line_left : Option Row → ℕ
  line_left before = line_length (learnt before key okuri cand 0)

  -- they are too many
  abbrev is_long : Option Row → Bool
  is_long before = nat_lt line_limit (line_left before)

  -- where a book has a stamp left, what a learning is answered depends on the row alone, but for the stamp
  learning_answer : (files : List (List Row)) (state : State) → count_of state book < last_count
      → answer files state (Learn book key okuri cand)
      ≡ cond (is_long (row_at state book key)) (TooBig (line_left (row_at state book key)))
      (learned_reply (record {
        book = book;
        key = key;
        stamp = count_of state book + 1;
        before = row_at state book key;
      }))
  learning_answer files state low =
      ap (λ (b : Bool). cond b StampsEnd (cond (is_long (row_at state book key))
      (TooBig (line_left (row_at state book key)))
      (learned_reply (record {
        book = book;
        key = key;
        stamp = count_of state book + 1;
        before = row_at state book key;
      })))) (not_same (count_of state book) last_count low)

  -- so it changes something unless the row is too big
  learning_moves : (state : State) → count_of state book < last_count
      → moves state (Learn book key okuri cand) ≡ not (is_long (row_at state book key))
  learning_moves state low =
      ap is_change (learning_answer [] state low)
      ∙ changes_unless (is_long (row_at state book key)) (line_left (row_at state book key)) (record {
        book = book;
        key = key;
        stamp = count_of state book + 1;
        before = row_at state book key;
      })

  -- and where it does not, it is answered how big
  learning_still : (files : List (List Row)) (state : State) → count_of state book < last_count
      → moves state (Learn book key okuri cand) ≡ false
      → answer files state (Learn book key okuri cand) ≡ TooBig (line_left (row_at state book key))
  learning_still files state low still =
      learning_answer files state low
      ∙ ap (λ (b : Bool). cond b (TooBig (line_left (row_at state book key)))
      (learned_reply (record {
        book = book;
        key = key;
        stamp = count_of state book + 1;
        before = row_at state book key;
      })))
      (not-false (is_long (row_at state book key)) (sym (learning_moves state low) ∙ still))

  module _ (state later : State) (low : count_of state book < last_count) (low_later : count_of later book < last_count)
      (same : row_at later book key ≡ row_at state book key) where
    -- it moves each state that has the same row there, or none
    learning_moves_alike : moves later (Learn book key okuri cand) ≡ moves state (Learn book key okuri cand)
    learning_moves_alike =
        learning_moves later low_later ∙ ap (λ (row : Option Row). not (is_long row)) same
        ∙ sym (learning_moves state low)

    -- and where it moves none it is answered the same
    learning_answer_alike : (files : List (List Row)) → moves state (Learn book key okuri cand) ≡ false
        → answer files later (Learn book key okuri cand) ≡ answer files state (Learn book key okuri cand)
    learning_answer_alike files still =
        learning_still files later low_later (learning_moves_alike ∙ still)
        ∙ ap (λ (row : Option Row). TooBig (line_left row)) same
        ∙ sym (learning_still files state low still)

  -- it leaves the rows of other keys
  other_row : (state : State) (other : RowKey) → same_key key other ≡ false
      → row_at (after state (Learn book key okuri cand)) book other ≡ row_at state book other
  other_row state other apart = by (moves state (Learn book key okuri cand)) refl
    where
      by : (b : Bool) → moves state (Learn book key okuri cand) ≡ b
          → row_at (after state (Learn book key okuri cand)) book other ≡ row_at state book other
      by true e =
          let stamp = count_of state book + 1 in
          ap (λ s. row_at s book other) (after_moved state (Learn book key okuri cand) e)
          ∙ row_at_other_key state book stamp key (Some (learnt (row_at state book key) key okuri cand stamp)) other
          apart (same_key_itself key)
      by false e = ap (λ s. row_at s book other) (after_still state (Learn book key okuri cand) e)

  -- and gives each book one stamp at most
  one_stamp : (state : State) (number : ℕ)
      → count_of (after state (Learn book key okuri cand)) number ≤ count_of state number + 1
  one_stamp state number = by (moves state (Learn book key okuri cand)) refl
    where
      stamp : ℕ
      stamp = count_of state book + 1

      new : Option Row
      new = Some (learnt (row_at state book key) key okuri cand stamp)

      moved : (b : Bool) → (book == number) ≡ b → moves state (Learn book key okuri cand) ≡ true
          → count_of (after state (Learn book key okuri cand)) number ≤ count_of state number + 1
      moved true same e =
          let is : book ≡ number = eqb-true book number same in
          let counted : count_of (after state (Learn book key okuri cand)) book ≡ stamp =
          ap (λ s. count_of s book) (after_moved state (Learn book key okuri cand) e)
          ∙ count_of_changed state book stamp key new in
          subst (λ (n : ℕ). count_of (after state (Learn book key okuri cand)) n ≤ count_of state n + 1) is
          (omega (arith, counted))
      moved false same e =
          let counted : count_of (after state (Learn book key okuri cand)) number ≡ count_of state number =
          ap (λ s. count_of s number) (after_moved state (Learn book key okuri cand) e)
          ∙ ap book_count (book_at_other state book stamp key new number same) in
          omega (arith, counted)

      by : (b : Bool) → moves state (Learn book key okuri cand) ≡ b
          → count_of (after state (Learn book key okuri cand)) number ≤ count_of state number + 1
      by true e = moved (book == number) refl e
      by false e =
          let is = ap (λ s. count_of s number) (after_still state (Learn book key okuri cand) e) in omega (arith, is)

-- a call that learns in a book is a learning in it
pub learning : (book : ℕ) (call : Call) → learns_in book call ≡ true
    → (key : RowKey) × (okuri : Option (List ℕ)) × (cand : Cand) × (call ≡ Learn book key okuri cand)
learning book (Learn own key okuri cand) e =
    (key, okuri, cand, ap (λ n. Learn n key okuri cand) (eqb-true own book e))
learning book (Lookup who key okuri) e = absurd (cc)
learning book (Complete who prefix) e = absurd (cc)
learning book (Purge own key word) e = absurd (cc)
learning book (Annotate own key cand) e = absurd (cc)
learning book (Share who books) e = absurd (cc)
learning book (Unlearn learned) e = absurd (cc)

-- so it gives each book one stamp at most
call_stamps : (state : State) (book number : ℕ) (call : Call) → learns_in book call ≡ true
    → count_of (after state call) number ≤ count_of state number + 1
call_stamps state book number call learns =
    let own = learning book call learns in
    subst (λ (one : Call). count_of (after state one) number ≤ count_of state number + 1) (sym own.3)
    (one_stamp book own.0 own.1 own.2 state number)

-- States that are alike for learnings

-- where a call learns, a later state has the row of its key as an earlier one
abbrev pub HasRowOf : State → State → Call → Type 0
HasRowOf state later (Learn book key okuri cand) = row_at later book key ≡ row_at state book key
HasRowOf state later call = ⊤

-- a call does at a later state what it does at an earlier one: it changes something at both, or is answered the same at
-- both, and no system file has a say in it
pub record DoesAlike (state later : State) (call : Call) : Type 0 where
  pub moving : moves later call ≡ moves state call
  pub answers : (files : List (List Row)) → moves state call ≡ false
      → answer files later call ≡ answer files state call
  pub alone : (files : List (List Row)) → answer [] later call ≡ answer files later call

-- so does a learning where its row is the same and its book has stamps
does_alike : (state later : State) (book : ℕ) (call : Call) → learns_in book call ≡ true
    → count_of state book < last_count → count_of later book < last_count → HasRowOf state later call
    → DoesAlike state later call
does_alike state later book call learns low low_later has =
    let own = learning book call learns in
    let same = subst (λ (one : Call). HasRowOf state later one) own.3 has in
    subst (λ (one : Call). DoesAlike state later one) (sym own.3) (record {
      moving = learning_moves_alike book own.0 own.1 own.2 state later low low_later same;
      answers = learning_answer_alike book own.0 own.1 own.2 state later low low_later same;
      alone = λ files. refl;
    })

-- learnings of a book under different keys whose rows a later state has as an earlier one, and for which both have
-- stamps
pub record AreAlike (state later : State) (book : ℕ) (calls : List Call) : Type 0 where
  pub learn : list_all (learns_in book) calls ≡ true
  pub apart : all_pairs learn_apart calls ≡ true
  pub rows : All (HasRowOf state later) calls
  pub first : count_of state book < last_count
  pub stamps : count_of later book + length calls ≤ last_count

-- those of a group are so at the state before it
pub group_alike : (state : State) (calls : List Call) → IsGroup state calls
    → AreAlike state state (book_of_group calls) calls
group_alike state calls group = record {
  learn = group.learn;
  apart = group.apart;
  rows = all calls;
  first = omega (arith, group.stamps);
  stamps = omega (arith, group.stamps, group.few);
}
  where
    one : (call : Call) → HasRowOf state state call
    one (Learn book key okuri cand) = refl
    one (Lookup who key okuri) = tt
    one (Complete who prefix) = tt
    one (Purge own key word) = tt
    one (Annotate own key cand) = tt
    one (Share who books) = tt
    one (Unlearn learned) = tt

    all : (those : List Call) → All (HasRowOf state state) those
    all [] = All-nil (HasRowOf state state)
    all (call ∷ those) = All-cons (HasRowOf state state) call those (one call) (all those)

module _ (state later : State) (book : ℕ) (call : Call) (calls : List Call)
    (alike : AreAlike state later book (call ∷ calls)) where
  -- the first of them learns
  first_learns : learns_in book call ≡ true
  first_learns = (and_parts (learns_in book call) (list_all (learns_in book) calls) alike.learn).0

  -- and does alike
  pub first_alike : DoesAlike state later call
  first_alike =
      does_alike state later book call first_learns alike.first (omega (arith, alike.stamps))
      (All-head (HasRowOf state later) call calls alike.rows)

  -- a call under another key has its row behind it
  row_behind : (other : Call) → learns_in book other ≡ true → learn_apart call other ≡ true
      → HasRowOf state later other → HasRowOf state (after later call) other
  row_behind (Learn number key okuri cand) learns apart has =
      let own = learning book call first_learns in
      let is : number ≡ book = eqb-true number book learns in
      let other : same_key own.0 key ≡ false =
      not-true (same_key own.0 key) (subst (λ (one : Call). learn_apart one (Learn number key okuri cand) ≡ true) own.3
      apart) in
      subst (λ (n : ℕ). row_at (after later call) n key ≡ row_at later n key) (sym is)
      (subst (λ (one : Call). row_at (after later one) book key ≡ row_at later book key) (sym own.3)
      (other_row book own.0 own.1 own.2 later key other))
      ∙ has
  row_behind (Lookup who key okuri) learns apart has = tt
  row_behind (Complete who prefix) learns apart has = tt
  row_behind (Purge own key word) learns apart has = tt
  row_behind (Annotate own key cand) learns apart has = tt
  row_behind (Share who books) learns apart has = tt
  row_behind (Unlearn learned) learns apart has = tt

  -- and so have those behind it
  rows_behind : (those : List Call) → list_all (learns_in book) those ≡ true
      → list_all (learn_apart call) those ≡ true → All (HasRowOf state later) those
      → All (HasRowOf state (after later call)) those
  rows_behind [] learn apart rows = All-nil (HasRowOf state (after later call))
  rows_behind (other ∷ those) learn apart rows =
      let learns = and_parts (learns_in book other) (list_all (learns_in book) those) learn in
      let aparts = and_parts (learn_apart call other) (list_all (learn_apart call) those) apart in
      All-cons (HasRowOf state (after later call)) other those
      (row_behind other learns.0 aparts.0 (All-head (HasRowOf state later) other those rows))
      (rows_behind those learns.1 aparts.1 (All-tail (HasRowOf state later) other those rows))

  -- the others are alike behind it
  pub others_alike : AreAlike state (after later call) book calls
  others_alike =
      let learns = and_parts (learns_in book call) (list_all (learns_in book) calls) alike.learn in
      let aparts = and_parts (list_all (learn_apart call) calls) (all_pairs learn_apart calls) alike.apart in
      record {
        learn = learns.1;
        apart = aparts.1;
        rows = rows_behind calls learns.1 aparts.0 (All-tail (HasRowOf state later) call calls alike.rows);
        first = alike.first;
        stamps = omega (arith, alike.stamps, call_stamps later book book call learns.0);
      }

-- What a group does at each place

-- each of alike learnings does alike at its place
alike_at : (state later : State) (book : ℕ) (front : List Call) (call : Call) (rest : List Call)
    → AreAlike state later book (front ++ call ∷ rest) → DoesAlike state (after_calls later front) call
alike_at state later book [] call rest alike = first_alike state later book call rest alike
alike_at state later book (one ∷ front) call rest alike =
    alike_at state (after later one) book front call rest
    (others_alike state later book one (front ++ call ∷ rest) alike)

-- each call of a group does at the state after those before it what it does at the state before the group
pub group_at : (state : State) (front : List Call) (call : Call) (rest : List Call)
    → IsGroup state (front ++ call ∷ rest) → DoesAlike state (after_calls state front) call
group_at state front call rest group =
    alike_at state state (book_of_group (front ++ call ∷ rest)) front call rest
    (group_alike state (front ++ call ∷ rest) group)

-- what a planned call of alike ones is answered where a disk failed its group
planned_alike : (files : List (List Row)) (state later : State) (call : Call) (plan : Plan)
    → DoesAlike state later call → IsPlanned later call plan → answer_planned plan ≡ failed files state call
planned_alike files state later call (Still reply) alike planned =
    let still : moves state call ≡ false = sym alike.moving ∙ planned.0 in
    ap Done (planned.1 ∙ alike.alone files ∙ alike.answers files still)
    ∙ sym (ap (λ (b : Bool). cond b (Refused refusals.Disk) (served files state call)) still)
planned_alike files state later call (Move book count key row reply) alike planned =
    sym (ap (λ (b : Bool). cond b (Refused refusals.Disk) (served files state call)) (sym alike.moving ∙ planned.0))
planned_alike files state later call (Lists who list reply) alike planned =
    sym (ap (λ (b : Bool). cond b (Refused refusals.Disk) (served files state call)) (sym alike.moving ∙ planned.0))

-- and what all of them are
all_planned_alike : (files : List (List Row)) (state later : State) (book : ℕ) (calls : List Call) (plans : List Plan)
    → AreAlike state later book calls → ArePlanned later calls plans
    → map answer_planned plans ≡ map (failed files state) calls
all_planned_alike files state later book [] [] alike planned = refl
all_planned_alike files state later book [] (plan ∷ plans) alike planned = absurd planned
all_planned_alike files state later book (call ∷ calls) [] alike planned = absurd planned
all_planned_alike files state later book (call ∷ calls) (plan ∷ plans) alike planned =
    ap (λ (first : Answer). first ∷ map answer_planned plans)
    (planned_alike files state later call plan (first_alike state later book call calls alike) planned.0)
    ∙ ap (λ (answers : List Answer). failed files state call ∷ answers)
    (all_planned_alike files state (after later call) book calls plans
    (others_alike state later book call calls alike) planned.1)

-- what the plans of a group are answered where a disk failed it is what its calls are answered so
pub group_failed : (files : List (List Row)) (state : State) (calls : List Call) (plans : List Plan)
    → IsGroup state calls → ArePlanned state calls plans
    → map answer_planned plans ≡ map (failed files state) calls
group_failed files state calls plans group planned =
    all_planned_alike files state state (book_of_group calls) calls plans (group_alike state calls group) planned

-- alike learnings that change nothing may be left out
alike_moving : (state later : State) (book : ℕ) (calls : List Call) → AreAlike state later book calls
    → after_calls later (filter (moves state) calls) ≡ after_calls later calls
alike_moving state later book [] alike = refl
alike_moving state later book (call ∷ calls) alike =
    by (moves state call) refl (alike_moving state (after later call) book calls
    (others_alike state later book call calls alike))
  where
    by : (b : Bool) → moves state call ≡ b
        → after_calls (after later call) (filter (moves state) calls) ≡ after_calls (after later call) calls
        → after_calls later (cond b (call ∷ filter (moves state) calls) (filter (moves state) calls))
        ≡ after_calls (after later call) calls
    by true e rest = rest
    by false e rest =
        ap (λ (s : State). after_calls s (filter (moves state) calls))
        (sym (after_still later call ((first_alike state later book call calls alike).moving ∙ e)))
        ∙ rest

-- the calls of a group that change something leave what all of it leave
pub group_moving : (state : State) (calls : List Call) → IsGroup state calls
    → after_calls state (filter (moves state) calls) ≡ after_calls state calls
group_moving state calls group =
    alike_moving state state (book_of_group calls) calls (group_alike state calls group)

-- learnings give each book as many stamps as they are, at most
pub learnings_stamps : (state : State) (book number : ℕ) (calls : List Call) → list_all (learns_in book) calls ≡ true
    → count_of (after_calls state calls) number ≤ count_of state number + length calls
learnings_stamps state book number [] learn = omega arith
learnings_stamps state book number (call ∷ calls) learn =
    let learns = and_parts (learns_in book call) (list_all (learns_in book) calls) learn in
    omega (
      arith,
      learnings_stamps (after state call) book number calls learns.1,
      call_stamps state book number call learns.0,
    )

-- and so does a group
pub group_stamps : (state : State) (number : ℕ) (calls : List Call) → IsGroup state calls
    → count_of (after_calls state calls) number ≤ count_of state number + length calls
group_stamps state number calls group = learnings_stamps state (book_of_group calls) number calls group.learn

-- What it leaves in a history

-- no system file has a say in whether a call changes something
changes_alone : (files : List (List Row)) (state : State) (call : Call)
    → is_change (answer files state call) ≡ moves state call
changes_alone files state (Lookup who key okuri) = refl
changes_alone files state (Complete who prefix) = refl
changes_alone files state (Learn book key okuri cand) = refl
changes_alone files state (Purge book key word) = refl
changes_alone files state (Annotate book key cand) = refl
changes_alone files state (Share who books) = refl
changes_alone files state (Unlearn learned) = refl

-- the calls of entered notes are those that were entered
pub entered_calls : (time faults : ℕ) (calls : List Call) (answers : List Answer) → length answers ≡ length calls
    → map (λ (entry : Entry). entry.call) (history_of (entered time faults calls answers)) ≡ calls
entered_calls time faults [] [] long = refl
entered_calls time faults [] (one ∷ answers) long = absurd (omega (arith, long))
entered_calls time faults (call ∷ calls) [] long = absurd (omega (arith, long))
entered_calls time faults (call ∷ calls) (one ∷ answers) long =
    ap (λ (those : List Call). call ∷ those) (entered_calls time faults calls answers (omega (arith, long)))

-- there is an answer for each call that was served, and for each that a disk failed
pub served_length : (files : List (List Row)) (state : State) (calls : List Call)
    → length (all_served files state calls) ≡ length calls
served_length files state [] = refl
served_length files state (call ∷ calls) = omega (arith, served_length files (after state call) calls)

pub failed_length : (files : List (List Row)) (state : State) (calls : List Call)
    → length (map (failed files state) calls) ≡ length calls
failed_length files state [] = refl
failed_length files state (call ∷ calls) = omega (arith, failed_length files state calls)

module _ (time faults : ℕ) (files : List (List Row)) where
  -- behind calls that were served there is the state after them
  pub served_state : (state : State) (calls : List Call)
      → state_after state (history_of (entered time faults calls (all_served files state calls)))
      ≡ after_calls state calls
  served_state state [] = refl
  served_state state (call ∷ calls) = served_state (after state call) calls

  -- and nothing is in doubt that was not
  pub served_doubt : (state : State) (calls : List Call)
      → in_doubt [] (history_of (entered time faults calls (all_served files state calls))) ≡ []
  served_doubt state [] = refl
  served_doubt state (call ∷ calls) =
      by (is_change (answer files state call)) (served_doubt (after state call) calls)
    where
      by : (b : Bool)
          → in_doubt [] (history_of (entered time faults calls (all_served files (after state call) calls))) ≡ []
          → in_doubt (cond b [] [])
          (history_of (entered time faults calls (all_served files (after state call) calls))) ≡ []
      by true rest = rest
      by false rest = rest

  module _ (state : State) where
    -- behind calls that a disk failed there is the state before them
    pub failed_state : (calls : List Call)
        → state_after state (history_of (entered time faults calls (map (failed files state) calls))) ≡ state
    failed_state [] = refl
    failed_state (call ∷ calls) = by (moves state call) refl (failed_state calls)
      where
        by : (b : Bool) → moves state call ≡ b
            → state_after state (history_of (entered time faults calls (map (failed files state) calls))) ≡ state
            → state_after (after_answer state call (cond b (Refused refusals.Disk) (served files state call)))
            (history_of (entered time faults calls (map (failed files state) calls))) ≡ state
        by true e rest = rest
        by false e rest =
            ap (λ (s : State). state_after s (history_of (entered time faults calls (map (failed files state) calls))))
            (after_still state call e)
            ∙ rest

    -- and those that would change something are in doubt, behind those before them
    pub failed_doubt_behind : (calls doubted : List Call)
        → in_doubt doubted (history_of (entered time faults calls (map (failed files state) calls)))
        ≡ doubted ++ filter (moves state) calls
    failed_doubt_behind [] doubted = sym (append-nil doubted)
    failed_doubt_behind (call ∷ calls) doubted = by (moves state call) refl (failed_doubt_behind calls)
      where
        by : (b : Bool) → moves state call ≡ b
            → ((others : List Call)
            → in_doubt others (history_of (entered time faults calls (map (failed files state) calls)))
            ≡ others ++ filter (moves state) calls)
            → in_doubt (in_doubt_after doubted call (cond b (Refused refusals.Disk) (served files state call)))
            (history_of (entered time faults calls (map (failed files state) calls)))
            ≡ doubted ++ cond b (call ∷ filter (moves state) calls) (filter (moves state) calls)
        by true e rest =
            rest (doubted ++ call ∷ []) ∙ append_assoc doubted (call ∷ []) (filter (moves state) calls)
        by false e rest =
            ap (λ (b : Bool). in_doubt (cond b [] doubted)
            (history_of (entered time faults calls (map (failed files state) calls))))
            (changes_alone files state call ∙ e)
            ∙ rest doubted

    -- with none before them, they are those in doubt
    pub failed_doubt : (calls : List Call)
        → in_doubt [] (history_of (entered time faults calls (map (failed files state) calls)))
        ≡ filter (moves state) calls
    failed_doubt calls = failed_doubt_behind calls []
