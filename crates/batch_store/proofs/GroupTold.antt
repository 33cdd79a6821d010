-- What is written of the plans of a group of learnings tells what the group makes of its state.
use Rattle.std.proofs.Common.{◌≡◌, ℕ, ◌+◌, ◌<◌, ◌≤◌, Bool, true, false, ◌&&◌, ◌||◌, cond, Option, None, Some}
use Rattle.std.proofs.Common.{List, [], ◌∷◌, ◌++◌, length, drop, refl, sym, ◌∙◌, ap, subst, arith, length-append}
use Rattle.std.specs.List.{All, list_all}
use Rattle.std.specs.Str.{all_scalars}
use Rattle.std.proofs.lemmas.Bool.{and_from, and_parts, or_parts}
use Rattle.std.proofs.lemmas.Bool.Decides.{nat_tests}
use Rattle.std.proofs.lemmas.List.Elements.{All-cons, All-head, All-nil, All-tail}
use Rattle.skk_calls.specs.declared.answer.Reply.{Reply}
use Rattle.skk_calls.specs.declared.call.Call.{Call}
use Rattle.skk_calls.specs.declared.call.Call.TheVariants.{Lookup, Complete, Learn, Purge, Annotate, Share, Unlearn}
use Rattle.skk_calls.specs.Canonical.{canonical, is_good}
use Rattle.skk_calls.specs.Dictionary.{after, is_call, is_fit, moves}
use Rattle.skk_calls.specs.Histories.{after_calls, need}
use Rattle.skk_calls.specs.Rows.{RowKey, Row, is_row}
use Rattle.skk_calls.specs.States.{State, empty_state, fits_count, has_stamp, is_valid}
use Rattle.skk_journal.specs.RecordLaws.{length-record_bytes, need_is}
use Rattle.skk_journal.specs.Records.{IsSized, body, framed, need as record_need, record_bytes}
use Rattle.learn_index.specs.declared.plan.Plan.{Plan}
use Rattle.learn_index.specs.declared.plan.Plan.TheVariants.{Still, Move, Lists}
use Rattle.learn_index.specs.Groups.{ArePlanned, learns_in}
use Rattle.learn_index.specs.Plans.{IsPlanned}
use Rattle.learned_store.specs.declared.form.PayloadForm.{PayloadForm}
use Rattle.learned_store.specs.declared.form.PayloadForm.TheVariants.{Put, Drop}
use Rattle.learned_store.specs.Payloads.{CountsOn, are_held, change_told, counted_by, is_sound, payload_of}
use Rattle.learned_store.specs.Payloads.{put_bytes, row_told, state_told}
use Rattle.learned_store.specs.Recovered.{Leads}
use Rattle.learned_store.specs.Written.{noted_in, planned_told}
use Rattle.batch_store.specs.Batches.{IsPieceOf, TellsGroup, group_need, moving_need, some_moves}
use Rattle.batch_store.specs.Groups.{PutsCharacters, PutsGood, PutsHeld, put_payloads}

-- the laws of the dictionary and of its store on which this stands
pub record Laws : Type 0 where
  pub plans : (state : State) (call : Call) (book count : ℕ) (key : RowKey) (row : Option Row) (reply : Reply)
      → is_call call ≡ true → IsPlanned state call (Move book count key row reply)
      → change_told state call ≡ Some (planned_told (noted_in state call) book count key row)
  pub puts : (state : State) (call : Call) (book count : ℕ) (row : Row) → is_valid state ≡ true
      → is_call call ≡ true → is_fit call ≡ true → moves state call ≡ true
      → change_told state call ≡ Some (Put book count row) → fits_count count row ≡ true
  pub counts : (state : State) (call : Call) (form : PayloadForm) → change_told state call ≡ Some form
      → CountsOn state (counted_by form)
  pub needs : (state : State) (call : Call) (form : PayloadForm) → change_told state call ≡ Some form
      → need state call ≡ record_need (payload_of form)
  pub leaves : (state : State) (call : Call) (form : PayloadForm) → is_valid state ≡ true → is_call call ≡ true
      → moves state call ≡ true → change_told state call ≡ Some form → state_told state form ≡ after state call
  pub sized : (form : PayloadForm) → is_sound form ≡ true → IsSized (payload_of form)
  pub valid : (state : State) (call : Call) → is_valid state ≡ true → is_call call ≡ true → is_fit call ≡ true
      → is_valid (after state call) ≡ true

-- a call that does not move a state leaves it
pub after_still : (state : State) (call : Call) → moves state call ≡ false → after state call ≡ state
after_still state call e = rw e

-- calls none of which changes anything leave the state
pub after_still_calls : (state : State) (calls : List Call) → some_moves state calls ≡ false
    → after_calls state calls ≡ state
after_still_calls state [] e = refl
after_still_calls state (call ∷ calls) e =
    let parts = or_parts (moves state call) (some_moves (after state call) calls) e in
    after_still_calls (after state call) calls parts.1 ∙ after_still state call parts.0

-- What a group may be

-- a learning is fit
pub learning_fit : (book : ℕ) (call : Call) → learns_in book call ≡ true → is_fit call ≡ true
learning_fit book (Lookup who key okuri) learns = refl
learning_fit book (Complete who prefix) learns = refl
learning_fit book (Learn own key okuri cand) learns = refl
learning_fit book (Purge own key word) learns = absurd (cc)
learning_fit book (Annotate own key cand) learns = refl
learning_fit book (Share who books) learns = refl
learning_fit book (Unlearn learned) learns = refl

-- a learning puts its row: it takes none out
no_drop : (state : State) (book : ℕ) (call : Call) → learns_in book call ≡ true → (number count : ℕ) (key : RowKey)
    → change_told state call ≡ Some (Drop number count key) → ⊥
no_drop state book (Lookup who own okuri) learns number count key told = cc
no_drop state book (Complete who prefix) learns number count key told = cc
no_drop state book (Learn other own okuri cand) learns number count key told = cc
no_drop state book (Purge other own word) learns number count key told = cc
no_drop state book (Annotate other own cand) learns number count key told = cc
no_drop state book (Share who books) learns number count key told = cc
no_drop state book (Unlearn learned) learns number count key told = cc

-- and it gives no list
no_list : (state : State) (book : ℕ) (call : Call) → learns_in book call ≡ true → (who : ℕ) (list : List ℕ)
    (reply : Reply) → IsPlanned state call (Lists who list reply) → ⊥
no_list state book call learns who list reply planned =
    let shares : false ≡ true = subst (λ (one : Call). learns_in book one ≡ true) planned.2 learns in
    cc

-- records lead on to where the records behind them lead
pub leads_on : (version : ℕ) (start : State) (records : List (List ℕ)) (state : State) (added : List (List ℕ))
    (later : State) → Leads version start records state → Leads version state added later
    → Leads version start (records ++ added) later
leads_on version start [] state added later is leads =
    subst (λ (s : State). Leads version s added later) is leads
leads_on version start (first ∷ records) state added later leads more =
    (leads.0, leads.1, leads_on version (state_told start leads.0) records state added later leads.2 more)

-- What is told

-- there are some of these
abbrev pub has_some : List (List ℕ) → Bool
has_some [] = false
has_some (payload ∷ payloads) = true

-- payloads tell of calls: they are records that lead to the state after the calls, as long as the calls need, and there
-- are some exactly where one of the calls changes something
pub record Tells (state : State) (calls : List Call) (payloads : List (List ℕ)) : Type 0 where
  pub leads : (version : ℕ) → 1 ≤ version → Leads version state payloads (after_calls state calls)
  pub some : some_moves state calls ≡ has_some payloads
  pub needs : group_need state calls ≡ length (framed payloads)
  pub sized : All IsSized payloads

-- of a call in front that changes nothing there is no record
tells_still : (state : State) (call : Call) (calls : List Call) (payloads : List (List ℕ)) → moves state call ≡ false
    → Tells (after state call) calls payloads → Tells state (call ∷ calls) payloads
tells_still state call calls payloads still tells =
    let none : moving_need state call ≡ 0 = ap (λ (b : Bool). cond b (need state call) 0) still in
    record {
      leads = λ version known.
          subst (λ (s : State). Leads version s payloads (after_calls (after state call) calls))
          (after_still state call still) (tells.leads version known);
      some = ap (λ (b : Bool). b || some_moves (after state call) calls) still ∙ tells.some;
      needs = omega (arith, none, tells.needs);
      sized = tells.sized;
    }

-- of one in front that changes something there is the record of what it tells
tells_moved : Laws → (state : State) (call : Call) (calls : List Call) (payloads : List (List ℕ)) (book count : ℕ)
    (row : Row) → is_valid state ≡ true → is_call call ≡ true → moves state call ≡ true
    → change_told state call ≡ Some (Put book count row) → is_sound (Put book count row) ≡ true
    → Tells (after state call) calls payloads → Tells state (call ∷ calls) (put_bytes book count row ∷ payloads)
tells_moved laws state call calls payloads book count row valid typed moved told sound tells =
    let form : PayloadForm = Put book count row in
    let payload : List ℕ = put_bytes book count row in
    let all : moving_need state call ≡ need state call = ap (λ (b : Bool). cond b (need state call) 0) moved in
    let long : length (framed (payload ∷ payloads)) ≡ length (record_bytes payload) + length (framed payloads) =
    length-append (record_bytes payload) (framed payloads) in
    record {
      leads = λ version known. (
        form,
        record {
          known = grind (arith, nat_tests);
          sound = sound;
          counted = laws.counts state call form told;
          follows = refl;
          is = refl;
        },
        subst (λ (s : State). Leads version s payloads (after_calls (after state call) calls))
            (sym (laws.leaves state call form valid typed moved told)) (tells.leads version known),
      );
      some = ap (λ (b : Bool). b || some_moves (after state call) calls) moved;
      needs =
          omega (
            arith,
            all,
            laws.needs state call form told,
            need_is payload,
            length-record_bytes payload,
            long,
            tells.needs,
          );
      sized = All-cons IsSized payload payloads (laws.sized form sound) tells.sized;
    }

-- the bytes of some records together are those of a group
of_some : (state : State) (calls : List Call) (bytes : List ℕ) → 0 < length bytes → TellsGroup state calls bytes
    → IsPieceOf state calls bytes
of_some state calls [] some tells = absurd (omega (arith, some))
of_some state calls (byte ∷ bytes) some tells = tells

-- so what is behind the first gate of the records of payloads that tell of calls is a piece of them
pub piece_told : (state : State) (calls : List Call) (payloads : List (List ℕ)) → Tells state calls payloads
    → IsPieceOf state calls (drop 1 (framed payloads ++ 0 ∷ []))
piece_told state calls [] tells = tells.some
piece_told state calls (payload ∷ payloads) tells =
    let added : List (List ℕ) = payload ∷ payloads in
    let inner : List ℕ = body payload ++ framed payloads in
    let long : length (inner ++ 0 ∷ []) ≡ length inner + 1 = length-append inner (0 ∷ []) in
    of_some state calls (inner ++ 0 ∷ []) (omega (arith, long)) (record {
      moved = tells.some;
      added = added;
      group = record { addition = record { some = omega arith; sized = tells.sized }; is = refl };
      adds = λ version known contents is left.
          leads_on contents.version empty_state contents.records state added (after_calls state calls) left
          (tells.leads contents.version (subst (λ (n : ℕ). 1 ≤ n) (sym is) known));
      needs = omega (arith, long, tells.needs);
    })

module _ (laws : Laws) where
  -- what the plan of a learning leaves is what is told of it
  put_told : (state : State) (book : ℕ) (call : Call) → learns_in book call ≡ true → is_call call ≡ true
      → (number count : ℕ) (key : RowKey) (row : Option Row) (reply : Reply)
      → IsPlanned state call (Move number count key row reply)
      → change_told state call ≡ Some (row_told number count key row)
  put_told state book (Lookup who own okuri) learns typed number count key row reply planned = absurd (cc)
  put_told state book (Complete who prefix) learns typed number count key row reply planned = absurd (cc)
  put_told state book (Learn other own okuri cand) learns typed number count key row reply planned =
      laws.plans state (Learn other own okuri cand) number count key row reply typed planned
  put_told state book (Purge other own word) learns typed number count key row reply planned = absurd (cc)
  put_told state book (Annotate other own cand) learns typed number count key row reply planned = absurd (cc)
  put_told state book (Share who books) learns typed number count key row reply planned = absurd (cc)
  put_told state book (Unlearn learned) learns typed number count key row reply planned = absurd (cc)

  module _ (state : State) (book : ℕ) (call : Call) (valid : is_valid state ≡ true)
      (learns : learns_in book call ≡ true) (typed : is_call call ≡ true) where
    -- the row that is put may stand in its book
    put_fits : (number count : ℕ) (key : RowKey) (row : Row) (reply : Reply)
        → IsPlanned state call (Move number count key (Some row) reply) → fits_count count row ≡ true
    put_fits number count key row reply planned =
        laws.puts state call number count row valid typed (learning_fit book call learns) planned.0
        (put_told state book call learns typed number count key (Some row) reply planned)

    -- so the row is good
    plan_good : (plan : Plan) → IsPlanned state call plan → PutsGood plan
    plan_good (Still reply) planned = tt
    plan_good (Move number count key None reply) planned =
        no_drop state book call learns number count key
        (put_told state book call learns typed number count key None reply planned)
    plan_good (Move number count key (Some row) reply) planned =
        let fits = put_fits number count key row reply planned in
        (and_parts (is_good row) (has_stamp count row)
        (and_parts (is_row row) (is_good row && has_stamp count row) fits).1).0
    plan_good (Lists who list reply) planned = no_list state book call learns who list reply planned

    -- and what is written of the plan is what the call tells
    plan_tells : (plan : Plan) (calls : List Call) (plans : List Plan) → IsPlanned state call plan
        → PutsCharacters plan → PutsHeld plan → Tells (after state call) calls (put_payloads plans)
        → Tells state (call ∷ calls) (put_payloads (plan ∷ plans))
    plan_tells (Still reply) calls plans planned characters held tells =
        tells_still state call calls (put_payloads plans) planned.0 tells
    plan_tells (Move number count key None reply) calls plans planned characters held tells =
        absurd (no_drop state book call learns number count key
        (put_told state book call learns typed number count key None reply planned))
    plan_tells (Move number count key (Some row) reply) calls plans planned characters held tells =
        let fits = put_fits number count key row reply planned in
        tells_moved laws state call calls (put_payloads plans) number count row valid typed planned.0
        (put_told state book call learns typed number count key (Some row) reply planned)
        (and_from (are_held number count) (fits_count count row && all_scalars (canonical row)) held
        (and_from (fits_count count row) (all_scalars (canonical row)) fits characters)) tells
    plan_tells (Lists who list reply) calls plans planned characters held tells =
        absurd (no_list state book call learns who list reply planned)

  -- the plans of a group of learnings put good rows
  pub all_good : (state : State) (book : ℕ) (calls : List Call) (plans : List Plan) → is_valid state ≡ true
      → list_all (learns_in book) calls ≡ true → list_all is_call calls ≡ true → ArePlanned state calls plans
      → All PutsGood plans
  all_good state book [] [] valid learn typed planned = All-nil PutsGood
  all_good state book [] (plan ∷ plans) valid learn typed planned = absurd planned
  all_good state book (call ∷ calls) [] valid learn typed planned = absurd planned
  all_good state book (call ∷ calls) (plan ∷ plans) valid learn typed planned =
      let learns = and_parts (learns_in book call) (list_all (learns_in book) calls) learn in
      let types = and_parts (is_call call) (list_all is_call calls) typed in
      let later = laws.valid state call valid types.0 (learning_fit book call learns.0) in
      All-cons PutsGood plan plans (plan_good state book call valid learns.0 types.0 plan planned.0)
      (all_good (after state call) book calls plans later learns.1 types.1 planned.1)

  -- and where they spell characters and their numbers are held, what is written of them tells of the group
  pub group_tells : (state : State) (book : ℕ) (calls : List Call) (plans : List Plan) → is_valid state ≡ true
      → list_all (learns_in book) calls ≡ true → list_all is_call calls ≡ true → ArePlanned state calls plans
      → All PutsCharacters plans → All PutsHeld plans → Tells state calls (put_payloads plans)
  group_tells state book [] [] valid learn typed planned characters held = record {
    leads = λ version known. refl;
    some = refl;
    needs = refl;
    sized = All-nil IsSized;
  }
  group_tells state book [] (plan ∷ plans) valid learn typed planned characters held = absurd planned
  group_tells state book (call ∷ calls) [] valid learn typed planned characters held = absurd planned
  group_tells state book (call ∷ calls) (plan ∷ plans) valid learn typed planned characters held =
      let learns = and_parts (learns_in book call) (list_all (learns_in book) calls) learn in
      let types = and_parts (is_call call) (list_all is_call calls) typed in
      let later = laws.valid state call valid types.0 (learning_fit book call learns.0) in
      plan_tells state book call valid learns.0 types.0 plan calls plans planned.0
      (All-head PutsCharacters plan plans characters) (All-head PutsHeld plan plans held)
      (group_tells (after state call) book calls plans later learns.1 types.1 planned.1
      (All-tail PutsCharacters plan plans characters) (All-tail PutsHeld plan plans held))

  -- so what is written is a piece of it
  pub group_piece : (state : State) (book : ℕ) (calls : List Call) (plans : List Plan) → is_valid state ≡ true
      → list_all (learns_in book) calls ≡ true → list_all is_call calls ≡ true → ArePlanned state calls plans
      → All PutsCharacters plans → All PutsHeld plans
      → IsPieceOf state calls (drop 1 (framed (put_payloads plans) ++ 0 ∷ []))
  group_piece state book calls plans valid learn typed planned characters held =
      piece_told state calls (put_payloads plans)
      (group_tells state book calls plans valid learn typed planned characters held)
