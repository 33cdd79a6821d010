-- A group of learnings: what is planned of one while those in front of it are not applied yet, and what is left of a
-- group while it is applied.
use Rattle.std.proofs.Common.{◌≡◌, ◌==◌, ℕ, suc, ◌+◌, ◌<◌, ◌≤◌, Bool, true, false, not, ◌&&◌, Option, Some, List, []}
use Rattle.std.proofs.Common.{◌∷◌, ◌++◌, length, get_or, map, take, refl, sym, ap, ◌∙◌, subst, arith}
use Rattle.std.specs.List.{All, list_all}
use Rattle.std.proofs.lemmas.Bool.{and_from, and_parts, eqb-true, not-true}
use Rattle.std.proofs.lemmas.List.{append-nil, append_assoc, take_more}
use Rattle.std.proofs.lemmas.List.Elements.{All-cons, All-head, All-nil, All-tail, All-weaker}
use Rattle.skk_text.specs.Pairs.{all_pairs}
use Rattle.skk_text.specs.PairsLaws.{all_pairs-take, list_all-take}
use Rattle.skk_calls.specs.KeyLaws.{same_key_itself}
use Rattle.skk_calls.specs.declared.answer.Reply.{Reply}
use Rattle.skk_calls.specs.declared.call.Call.{Call}
use Rattle.skk_calls.specs.declared.call.Call.TheVariants.{Lookup, Complete, Learn, Purge, Annotate, Share, Unlearn}
use Rattle.skk_calls.specs.Dictionary.{answer, after, moves, is_call, is_fit}
use Rattle.skk_calls.specs.Histories.{after_calls}
use Rattle.skk_calls.specs.Learning.{learnt}
use Rattle.skk_calls.specs.Rows.{RowKey, Cand, Row, same_key}
use Rattle.skk_calls.specs.States.{State, count_of, row_at, state_listed, state_with}
use Rattle.dict_laws.specs.ChangedStates.{after_moved, count_of_changed}
use Rattle.dict_laws.specs.OtherRows.{row_at_other_key}
use Rattle.learn_index.specs.declared.plan.Plan.{Plan}
use Rattle.learn_index.specs.declared.plan.Plan.TheVariants.{Still, Move, Lists}
use Rattle.learn_index.specs.Groups.{AreMade, ArePlanned, HasRoomFor, HaveRoom, IsLikeFor, count_left, learn_apart}
use Rattle.learn_index.specs.Groups.{learns_in, learns_under, may_plan, replies_to}
use Rattle.learn_index.specs.Index.{Index, spare_of}
use Rattle.learn_index.specs.Plans.{HasRoom, IsMade, IsPlanned, is_question}
use Rattle.learn_index.proofs.Planned.{list_is, move_is}

-- Learnings

-- a call that does not move a state leaves it
after_still : (state : State) (call : Call) → moves state call ≡ false → after state call ≡ state
after_still state call e = rw e

-- a call that learns in a book is a learning in it
pub learning : (book : ℕ) (call : Call) → learns_in book call ≡ true
    → (key : RowKey) × (okuri : Option (List ℕ)) × (cand : Cand) × (call ≡ Learn book key okuri cand)
learning book (Learn own key okuri cand) e =
    (key, okuri, cand, ap (λ n. Learn n key okuri cand) (eqb-true own book e))
learning book (Lookup who key okuri) e = absurd (cc)
learning book (Complete who prefix) e = absurd (cc)
learning book (Purge own key word) e = absurd (cc)
learning book (Annotate own key cand) e = absurd (cc)
learning book (Share who books) e = absurd (cc)
learning book (Unlearn learned) e = absurd (cc)

module _ (state : State) (book : ℕ) (own : RowKey) (okuri : Option (List ℕ)) (cand : Cand) where
  -- a learning leaves the rows of other keys
  other_row : (key : RowKey) → same_key own key ≡ false
      → row_at (after state (Learn book own okuri cand)) book key ≡ row_at state book key
  other_row key apart = by (moves state (Learn book own okuri cand)) refl
    where
      by : (b : Bool) → moves state (Learn book own okuri cand) ≡ b
          → row_at (after state (Learn book own okuri cand)) book key ≡ row_at state book key
      by true e =
          let stamp = count_of state book + 1 in
          ap (λ s. row_at s book key) (after_moved state (Learn book own okuri cand) e)
          ∙ row_at_other_key state book stamp own (Some (learnt (row_at state book own) own okuri cand stamp)) key
          apart (same_key_itself own)
      by false e = ap (λ s. row_at s book key) (after_still state (Learn book own okuri cand) e)

  -- and no lesser count
  count_grows : count_of state book ≤ count_of (after state (Learn book own okuri cand)) book
  count_grows = by (moves state (Learn book own okuri cand)) refl
    where
      by : (b : Bool) → moves state (Learn book own okuri cand) ≡ b
          → count_of state book ≤ count_of (after state (Learn book own okuri cand)) book
      by true e =
          let stamp = count_of state book + 1 in
          let is : count_of (after state (Learn book own okuri cand)) book ≡ stamp =
          ap (λ s. count_of s book) (after_moved state (Learn book own okuri cand) e)
          ∙ count_of_changed state book stamp own (Some (learnt (row_at state book own) own okuri cand stamp)) in
          omega (arith, is)
      by false e =
          let is = ap (λ s. count_of s book) (after_still state (Learn book own okuri cand) e) in omega (arith, is)

-- learnings in a book under other keys leave the row of a key
rows_stay : (state : State) (book : ℕ) (calls : List Call) (key : RowKey) → list_all (learns_in book) calls ≡ true
    → list_all (λ call. not (learns_under key call)) calls ≡ true
    → row_at (after_calls state calls) book key ≡ row_at state book key
rows_stay state book [] key learn apart = refl
rows_stay state book (call ∷ calls) key learn apart =
    let learns = and_parts (learns_in book call) (list_all (learns_in book) calls) learn in
    let others = and_parts (not (learns_under key call)) (list_all (λ one. not (learns_under key one)) calls) apart in
    let own = learning book call learns.0 in
    rows_stay (after state call) book calls key learns.1 others.1
    ∙ ap (λ one. row_at (after state one) book key) own.3
    ∙ other_row state book own.0 own.1 own.2 key
    (ap (learns_under key) (sym own.3) ∙ not-true (learns_under key call) others.0)

-- so where a call learns after such calls, the state is like the one before them
pub like_before : (state : State) (book : ℕ) (calls : List Call) (call : Call) (count : ℕ)
    → list_all (learns_in book) calls ≡ true → learns_in book call ≡ true
    → list_all (λ one. learn_apart one call) calls ≡ true → count ≡ count_of (after_calls state calls) book
    → IsLikeFor call count (after_calls state calls) state
like_before state book calls call count learn learns apart counted =
    let own = learning book call learns in
    subst (λ (one : Call). IsLikeFor one count (after_calls state calls) state) (sym own.3) (
      sym counted,
      rows_stay state book calls own.0 learn
          (subst (λ (one : Call). list_all (λ other. learn_apart other one) calls ≡ true) own.3 apart),
    )

-- What is planned so far

-- the state after calls and one more
after_more : (state : State) (calls : List Call) (call : Call)
    → after_calls state (calls ++ call ∷ []) ≡ after (after_calls state calls) call
after_more state [] call = refl
after_more state (first ∷ calls) call = after_more (after state first) calls call

-- the plans of calls and of one more
planned_more : (state : State) (calls : List Call) (plans : List Plan) (call : Call) (plan : Plan)
    → ArePlanned state calls plans → IsPlanned (after_calls state calls) call plan
    → ArePlanned state (calls ++ call ∷ []) (plans ++ plan ∷ [])
planned_more state [] [] call plan planned one = (one, tt)
planned_more state [] (other ∷ plans) call plan planned one = absurd planned
planned_more state (first ∷ calls) [] call plan planned one = absurd planned
planned_more state (first ∷ calls) (other ∷ plans) call plan planned one =
    (planned.0, planned_more (after state first) calls plans call plan planned.1 one)

-- there is a plan for each call
pub planned_length : (state : State) (calls : List Call) (plans : List Plan) → ArePlanned state calls plans
    → length plans ≡ length calls
planned_length state [] [] planned = refl
planned_length state [] (plan ∷ plans) planned = absurd planned
planned_length state (call ∷ calls) [] planned = absurd planned
planned_length state (call ∷ calls) (plan ∷ plans) planned =
    ap suc (planned_length (after state call) calls plans planned.1)

-- the book of what a learning leaves is its own
own_book : (state : State) (book : ℕ) (call : Call) → learns_in book call ≡ true → (number count : ℕ) (key : RowKey)
    (row : Option Row) (reply : Reply) → IsPlanned state call (Move number count key row reply) → book ≡ number
own_book state book call learns number count key row reply planned =
    let own = learning book call learns in
    let moved = subst (λ (one : Call). IsPlanned state one (Move number count key row reply)) own.3 planned in
    eqb-true book number (and_parts (book == number) (same_key own.0 key) moved.2).0

-- no learning leaves a list
no_list : (state : State) (book : ℕ) (call : Call) → learns_in book call ≡ true → (who : ℕ) (list : List ℕ)
    (reply : Reply) → IsPlanned state call (Lists who list reply) → ⊥
no_list state book call learns who list reply planned =
    let own = learning book call learns in
    differ (sym own.3 ∙ planned.2)
  where
    differ : {key : RowKey} {okuri : Option (List ℕ)} {cand : Cand} → Learn book key okuri cand ≡ Share who list → ⊥
    differ e = cc

-- the count that the plan of a learning leaves its book
pub count_next : (state : State) (book : ℕ) (call : Call) (plan : Plan) → learns_in book call ≡ true
    → IsPlanned state call plan → count_left (count_of state book) plan ≡ count_of (after state call) book
count_next state book call (Still reply) learns planned =
    ap (λ s. count_of s book) (sym (after_still state call planned.0))
count_next state book call (Move number count key row reply) learns planned =
    planned.3
    ∙ ap (count_of (after state call)) (sym (own_book state book call learns number count key row reply planned))
count_next state book call (Lists who list reply) learns planned =
    absurd (no_list state book call learns who list reply planned)

-- the first of a group's learnings are planned, and leave their book this count
pub record ArePlannedSoFar (state : State) (book : ℕ) (calls : List Call) (plans : List Plan) (count : ℕ) : Type 0 where
  pub planned : ArePlanned state calls plans
  pub valid : list_all is_call calls ≡ true
  pub counted : count ≡ count_of (after_calls state calls) book
  pub later : count_of state book ≤ count

-- and so is one more
pub planned_one_more : (state : State) (book : ℕ) (calls : List Call) (plans : List Plan) (count : ℕ) (call : Call)
    (plan : Plan) → ArePlannedSoFar state book calls plans count → learns_in book call ≡ true
    → IsPlanned (after_calls state calls) call plan → is_call call ≡ true
    → ArePlannedSoFar state book (calls ++ call ∷ []) (plans ++ plan ∷ []) (count_left count plan)
planned_one_more state book calls plans count call plan so_far learns planned is = record {
  planned = planned_more state calls plans call plan so_far.planned planned;
  valid = all_more calls so_far.valid;
  counted =
      ap (λ n. count_left n plan) so_far.counted
      ∙ count_next (after_calls state calls) book call plan learns planned
      ∙ ap (λ s. count_of s book) (sym (after_more state calls call));
  later =
      omega (
        arith,
        so_far.later,
        so_far.counted,
        ap (λ n. count_left n plan) so_far.counted,
        count_next (after_calls state calls) book call plan learns planned,
        grows,
      );
}
  where
    all_more : (those : List Call) → list_all is_call those ≡ true → list_all is_call (those ++ call ∷ []) ≡ true
    all_more [] e = and_from (is_call call) true is refl
    all_more (first ∷ those) e =
        let parts = and_parts (is_call first) (list_all is_call those) e in
        and_from (is_call first) (list_all is_call (those ++ call ∷ [])) parts.0 (all_more those parts.1)

    grows : count_of (after_calls state calls) book ≤ count_of (after (after_calls state calls) call) book
    grows =
        let own = learning book call learns in
        subst (λ (one : Call). count_of (after_calls state calls) book
        ≤ count_of (after (after_calls state calls) one) book) (sym own.3)
        (count_grows (after_calls state calls) book own.0 own.1 own.2)

-- the last of calls learns under no key of those in front of it
pub apart_from_last : (calls : List Call) (call : Call) → all_pairs learn_apart (calls ++ call ∷ []) ≡ true
    → list_all (λ one. learn_apart one call) calls ≡ true
apart_from_last [] call e = refl
apart_from_last (first ∷ calls) call e =
    let parts = and_parts (list_all (learn_apart first) (calls ++ call ∷ []))
    (all_pairs learn_apart (calls ++ call ∷ [])) e in
    and_from (learn_apart first call) (list_all (λ one. learn_apart one call) calls) (at_end calls parts.0)
    (apart_from_last calls call parts.1)
  where
    at_end : (those : List Call) → list_all (learn_apart first) (those ++ call ∷ []) ≡ true
        → learn_apart first call ≡ true
    at_end [] f = (and_parts (learn_apart first call) true f).0
    at_end (one ∷ those) f =
        at_end those (and_parts (learn_apart first one) (list_all (learn_apart first) (those ++ call ∷ [])) f).1

module _ (calls : List Call) (i : ℕ) (call : Call) (low : i < length calls) (is : call ≡ get_or calls i call) where
  -- the calls up to one are those in front of it, and it
  up_to : take (i + 1) calls ≡ take i calls ++ call ∷ []
  up_to = take_more calls i call low ∙ ap (λ one. take i calls ++ one ∷ []) (sym is)

  -- of learnings each is one
  pub learns_at : (book : ℕ) → list_all (learns_in book) calls ≡ true → learns_in book call ≡ true
  learns_at book learn =
      last (take i calls)
      (subst (λ (those : List Call). list_all (learns_in book) those ≡ true) up_to
      (list_all-take (learns_in book) (i + 1) calls learn))
    where
      last : (those : List Call) → list_all (learns_in book) (those ++ call ∷ []) ≡ true → learns_in book call ≡ true
      last [] e = (and_parts (learns_in book call) true e).0
      last (one ∷ those) e =
          last those (and_parts (learns_in book one) (list_all (learns_in book) (those ++ call ∷ [])) e).1

  -- what is planned of it, where its own row is as it was, is planned behind those in front of it
  pub one_planned : (state : State) (book : ℕ) (plans : List Plan) (count : ℕ) (plan : Plan)
      → list_all (learns_in book) calls ≡ true → all_pairs learn_apart calls ≡ true
      → ArePlannedSoFar state book (take i calls) plans count
      → ((later : State) → IsLikeFor call count later state → IsPlanned later call plan) → is_call call ≡ true
      → ArePlannedSoFar state book (take (i + 1) calls) (plans ++ plan ∷ []) (count_left count plan)
  one_planned state book plans count plan learn apart so_far planned valid =
      let learns = learns_at book learn in
      let others =
      apart_from_last (take i calls) call
      (subst (λ (those : List Call). all_pairs learn_apart those ≡ true) up_to
      (all_pairs-take learn_apart (i + 1) calls apart)) in
      let like =
      like_before state book (take i calls) call count (list_all-take (learns_in book) i calls learn) learns others
      so_far.counted in
      subst (λ (those : List Call). ArePlannedSoFar state book those (plans ++ plan ∷ []) (count_left count plan))
      (sym up_to)
      (planned_one_more state book (take i calls) plans count call plan so_far learns
      (planned (after_calls state (take i calls)) like) valid)

-- learnings may be planned
pub learnings_may : (book : ℕ) (calls : List Call) → list_all (learns_in book) calls ≡ true
    → list_all is_call calls ≡ true → list_all may_plan calls ≡ true
learnings_may book [] learn valid = refl
learnings_may book (call ∷ calls) learn valid =
    let learns = and_parts (learns_in book call) (list_all (learns_in book) calls) learn in
    let are = and_parts (is_call call) (list_all is_call calls) valid in
    let own = learning book call learns.0 in
    and_from (may_plan call) (list_all may_plan calls)
    (and_from (is_call call) (is_fit call && not (is_question call)) are.0
    (ap (λ one. is_fit one && not (is_question one)) own.3))
    (learnings_may book calls learns.1 are.1)

-- where the book of learnings has room for so many changes, so has that of each plan of theirs
pub room_for_all : (index : Index) (changes : ℕ) (book : ℕ) → changes ≤ spare_of index book → (state : State)
    (calls : List Call) (plans : List Plan) → list_all (learns_in book) calls ≡ true → ArePlanned state calls plans
    → All (HasRoomFor index changes) plans
room_for_all index changes book room state [] [] learn planned = All-nil (HasRoomFor index changes)
room_for_all index changes book room state [] (plan ∷ plans) learn planned = absurd planned
room_for_all index changes book room state (call ∷ calls) [] learn planned = absurd planned
room_for_all index changes book room state (call ∷ calls) (plan ∷ plans) learn planned =
    let learns = and_parts (learns_in book call) (list_all (learns_in book) calls) learn in
    All-cons (HasRoomFor index changes) plan plans (one plan learns.0 planned.0)
    (room_for_all index changes book room (after state call) calls plans learns.1 planned.1)
  where
    one : (p : Plan) → learns_in book call ≡ true → IsPlanned state call p → HasRoomFor index changes p
    one (Still reply) e f = tt
    one (Move number count key row reply) e f =
        subst (λ (n : ℕ). changes ≤ spare_of index n) (own_book state book call e number count key row reply f) room
    one (Lists who list reply) e f = no_list state book call e who list reply f

-- What a plan answers and leaves

abbrev pub reply_in : Plan → Reply
reply_in (Still reply) = reply
reply_in (Move book count key row reply) = reply
reply_in (Lists who list reply) = reply

abbrev pub state_left : State → Plan → State
state_left state (Still reply) = state
state_left state (Move book count key row reply) = state_with state book count key row
state_left state (Lists who list reply) = state_listed state who list

-- the state that plans leave, one after another
abbrev pub states_left : State → List Plan → State
states_left state [] = state
states_left state (plan ∷ plans) = states_left (state_left state plan) plans

left_is : (state : State) (call : Call) (plan : Plan) → is_call call ≡ true → IsPlanned state call plan
    → after state call ≡ state_left state plan
left_is state call (Still reply) is planned = after_still state call planned.0
left_is state call (Move book count key row reply) is planned =
    move_is state call book count key row reply is planned
left_is state call (Lists who list reply) is planned = list_is state call who list reply planned

reply_is : (state : State) (call : Call) (plan : Plan) → IsPlanned state call plan
    → reply_in plan ≡ answer [] state call
reply_is state call (Still reply) planned = planned.1
reply_is state call (Move book count key row reply) planned = planned.1
reply_is state call (Lists who list reply) planned = planned.1

-- no system file has a say in the reply to a change
same_answer : (files : List (List Row)) (state : State) (call : Call) → is_question call ≡ false
    → answer [] state call ≡ answer files state call
same_answer files state (Lookup who key okuri) e = absurd (cc)
same_answer files state (Complete who prefix) e = absurd (cc)
same_answer files state (Learn book key okuri cand) e = refl
same_answer files state (Purge book key word) e = refl
same_answer files state (Annotate book key cand) e = refl
same_answer files state (Share who books) e = refl
same_answer files state (Unlearn learned) e = refl

-- plans leave the state that their calls leave
pub states_are : (state : State) (calls : List Call) (plans : List Plan) → list_all is_call calls ≡ true
    → ArePlanned state calls plans → states_left state plans ≡ after_calls state calls
states_are state [] [] valid planned = refl
states_are state [] (plan ∷ plans) valid planned = absurd planned
states_are state (call ∷ calls) [] valid planned = absurd planned
states_are state (call ∷ calls) (plan ∷ plans) valid planned =
    let are = and_parts (is_call call) (list_all is_call calls) valid in
    ap (λ s. states_left s plans) (sym (left_is state call plan are.0 planned.0))
    ∙ states_are (after state call) calls plans are.1 planned.1

-- and are answered what these are answered
pub replies_are : (files : List (List Row)) (state : State) (calls : List Call) (plans : List Plan)
    → list_all (λ call. not (is_question call)) calls ≡ true → ArePlanned state calls plans
    → map reply_in plans ≡ replies_to files state calls
replies_are files state [] [] change planned = refl
replies_are files state [] (plan ∷ plans) change planned = absurd planned
replies_are files state (call ∷ calls) [] change planned = absurd planned
replies_are files state (call ∷ calls) (plan ∷ plans) change planned =
    let changes = and_parts (not (is_question call)) (list_all (λ one. not (is_question one)) calls) change in
    ap (λ (reply : Reply). reply ∷ map reply_in plans) (reply_is state call plan planned.0
    ∙ same_answer files state call (not-true (is_question call) changes.0))
    ∙ ap (λ (replies : List Reply). answer files state call ∷ replies)
    (replies_are files (after state call) calls plans changes.1 planned.1)

-- What is left while a group is applied

-- the first of plans that were made was made
first_made : (state : State) (plan : Plan) (plans : List Plan) → AreMade state (plan ∷ plans) → IsMade state plan
first_made state plan plans made = by made.0 made.1 made.2
  where
    by : (calls : List Call) → list_all may_plan calls ≡ true → ArePlanned state calls (plan ∷ plans)
        → IsMade state plan
    by [] may planned = absurd planned
    by (call ∷ calls) may planned =
        let all = and_parts (may_plan call) (list_all may_plan calls) may in
        let is = and_parts (is_call call) (is_fit call && not (is_question call)) all.0 in
        let fit = and_parts (is_fit call) (not (is_question call)) is.1 in
        (call, is.0, fit.0, not-true (is_question call) fit.1, planned.0)

-- a state is the one that a plan leaves of another
abbrev pub Leaves : State → Plan → State → Type 0
Leaves before plan later = (call : Call) → is_call call ≡ true → IsPlanned before call plan → later ≡ after before call

-- the others were made on the state that the first leaves
others_made : (state : State) (plan : Plan) (plans : List Plan) (later : State) → Leaves state plan later
    → AreMade state (plan ∷ plans) → AreMade later plans
others_made state plan plans later leaves made = by made.0 made.1 made.2
  where
    by : (calls : List Call) → list_all may_plan calls ≡ true → ArePlanned state calls (plan ∷ plans)
        → AreMade later plans
    by [] may planned = absurd planned
    by (call ∷ calls) may planned =
        let all = and_parts (may_plan call) (list_all may_plan calls) may in
        let is = and_parts (is_call call) (is_fit call && not (is_question call)) all.0 in
        (calls, all.1, subst (λ (s : State). ArePlanned s calls plans) (sym (leaves call is.0 planned.0)) planned.1)

-- these plans are still to be applied, on what those in front of them left
pub record AreLeft (before : State) (plans : List Plan) (index : Index) (rest : List Plan) (replies : List Reply)
    : Type 0 where
  pub made : AreMade index.state rest
  pub room : HaveRoom index rest
  pub state : states_left index.state rest ≡ states_left before plans
  pub answers : replies ++ map reply_in rest ≡ map reply_in plans

-- at first all are
pub all_left : (index : Index) (plans : List Plan) (replies : List Reply) → AreMade index.state plans
    → HaveRoom index plans → replies ≡ [] → AreLeft index.state plans index plans replies
all_left index plans replies made room none = record {
  made = made;
  room = room;
  state = refl;
  answers = ap (λ (those : List Reply). those ++ map reply_in plans) none;
}

-- and once none is, the state and the replies are those of all
pub none_left : (before : State) (plans : List Plan) (index : Index) (rest : List Plan) (replies : List Reply)
    → length rest ≡ 0 → AreLeft before plans index rest replies
    → (index.state ≡ states_left before plans) × (replies ≡ map reply_in plans)
none_left before plans index [] replies none left = (left.state, sym (append-nil replies) ∙ left.answers)
none_left before plans index (plan ∷ rest) replies none left = absurd (omega (arith, none))

module _ (before : State) (plans : List Plan) (index : Index) (plan : Plan) (rest : List Plan) (replies : List Reply)
    (left : AreLeft before plans index (plan ∷ rest) replies) where
  -- the first of them was made on the state that stands
  pub next_made : IsMade index.state plan
  next_made = first_made index.state plan rest left.made

  -- and has its room
  pub next_room : HasRoom index plan
  next_room = by plan (All-head (HasRoomFor index (length (plan ∷ rest))) plan rest left.room)
    where
      by : (p : Plan) → HasRoomFor index (length (plan ∷ rest)) p → HasRoom index p
      by (Still reply) room = tt
      by (Move book count key row reply) room = omega (arith, room)
      by (Lists who list reply) room = absurd room

  module _ (later : Index) (leaves : Leaves index.state plan later.state)
      (spare : (number : ℕ) → spare_of index number ≤ spare_of later number + 1) where
    others_room : HaveRoom later rest
    others_room =
        All-weaker (HasRoomFor index (length (plan ∷ rest))) (HasRoomFor later (length rest)) by rest
        (All-tail (HasRoomFor index (length (plan ∷ rest))) plan rest left.room)
      where
        by : (p : Plan) → HasRoomFor index (length (plan ∷ rest)) p → HasRoomFor later (length rest) p
        by (Still reply) room = tt
        by (Move book count key row reply) room = omega (arith, room, spare book)
        by (Lists who list reply) room = room

    -- the others are left by it
    pub next_left : (reply : Reply) → reply ≡ answer [] index.state next_made.0
        → AreLeft before plans later rest (replies ++ reply ∷ [])
    next_left reply replied =
        let made = next_made in
        record {
          made = others_made index.state plan rest later.state leaves left.made;
          room = others_room;
          state =
              ap (λ s. states_left s rest)
              (leaves made.0 made.1 made.4 ∙ left_is index.state made.0 plan made.1 made.4)
              ∙ left.state;
          answers =
              append_assoc replies (reply ∷ []) (map reply_in rest)
              ∙ ap (λ (r : Reply). replies ++ r ∷ map reply_in rest)
              (replied ∙ sym (reply_is index.state made.0 plan made.4))
              ∙ left.answers;
        }
