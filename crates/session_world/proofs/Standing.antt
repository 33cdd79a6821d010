-- A world stands after any events.
use Rattle.std.proofs.Common.{◌≡◌, ◌≢◌, ◌⊎◌, inl, inr, ◌∙◌, sym, ap, refl, subst, ℕ, suc, zero, true, false}
use Rattle.std.proofs.Common.{◌==◌, Some, None, Option, List, [], ◌∷◌, ◌++◌, map, slice_get}
use Rattle.std.proofs.Common.{if◌then◌else◌, eq-eqb, arith}
use Rattle.std.specs.Prelude.{slice_set}
use Rattle.std.proofs.lemmas.Bool.Decides.{eqb_tells}
use Rattle.std.proofs.lemmas.List.{append-nil}
use Rattle.std.specs.Option.{option_and_then, option_map}
use Rattle.skk_text.specs.declared.key.Key.{Key}
use Rattle.romaji_rules.specs.declared.rule.Rule.{Rule}
use Rattle.skk_calls.specs.declared.answer.Answer.{Answer}
use Rattle.skk_calls.specs.declared.answer.Answer.TheVariants.{Done, Refused}
use Rattle.skk_calls.specs.declared.answer.Refusal.{Refusal}
use Rattle.skk_calls.specs.declared.answer.Refusal.TheVariants.{Memory, Disk, JournalFull}
use Rattle.skk_calls.specs.declared.call.Call.{Call}
use Rattle.skk_calls.specs.declared.entry.Entry.{Entry}
use Rattle.skk_calls.specs.Dictionary.{answer, after, moves}
use Rattle.skk_calls.specs.Histories.{Opening, IsLegalAnswer, IsLegalWhere, after_entry, dialog, in_doubt}
use Rattle.skk_calls.specs.Rows.{Row}
use Rattle.skk_calls.specs.States.{State}
use Rattle.session_world.specs.Seats.{new_seat, renewed, asked_in, with_answers, answered}
use Rattle.session_world.specs.Stands.{AnyNumbers, HasPlayed, Stands, opening_of}
use Rattle.session_world.specs.Worlds.{World, new_world, with_seat, started, entered, answered_by, refusal_of, reopened}
use Rattle.session_world.specs.Worlds.{last_of, stepped, all_stepped}
use Rattle.session_world.specs.declared.event.Event.{Event}
use Rattle.session_world.specs.declared.event.Event.TheVariants as events
use Rattle.session_world.specs.declared.seat.Seat.{Seat}
use Rattle.skk_calls.specs.HistoryLaws.{dialog-other, dialog-own, legal-more, state-more}
use Rattle.session_world.proofs.Seats.{played-answered, played-new, played-started}

-- Lists

-- the item that was set stands at its place
set-same : {X : Type 0} (xs : List X) (at : ℕ) (y z : X) → slice_get (slice_set xs at y) at ≡ Some z → y ≡ z
set-same [] at y z e = absurd (cc)
set-same (x ∷ xs) zero y z e = cc
set-same (x ∷ xs) (suc at) y z e = set-same xs at y z e

-- and at another place what stood there
set-other : {X : Type 0} (xs : List X) (at place : ℕ) (y : X) → at ≢ place
    → slice_get (slice_set xs at y) place ≡ slice_get xs place
set-other [] at place y differ = refl
set-other (x ∷ xs) zero zero y differ = absurd (differ refl)
set-other (x ∷ xs) zero (suc place) y differ = refl
set-other (x ∷ xs) (suc at) zero y differ = refl
set-other (x ∷ xs) (suc at) (suc place) y differ = set-other xs at place y (λ same. differ (ap suc same))

-- what stands at a place of a list in which one item was set is that, or stood there
set-read : {X : Type 0} (xs : List X) (at place : ℕ) (y z : X) → slice_get (slice_set xs at y) place ≡ Some z
    → ((at ≡ place) × (y ≡ z)) ⊎ (((at == place) ≡ false) × (slice_get xs place ≡ Some z))
set-read xs at place y z e =
    elim (eqb_tells at place) [
      | inl here ↦
          inl (here.1, set-same xs at y z (subst (λ p. slice_get (slice_set xs at y) p ≡ Some z) (sym here.1) e))
      | inr there ↦ inr (there.0, sym (set-other xs at place y there.1) ∙ e)
    ]

-- what stands at a place of a list of values is that of what stands there
map-read : {X Y : Type 0} (f : X → Y) (xs : List X) (place : ℕ) (y : Y) → slice_get (map f xs) place ≡ Some y
    → (x : X) × (f x ≡ y)
map-read f [] place y e = absurd (cc)
map-read f (x ∷ xs) zero y e = (x, cc)
map-read f (x ∷ xs) (suc place) y e = map-read f xs place y e

-- Openings

-- no entry is not legal
legal-none : (opening : Opening) → IsLegalWhere AnyNumbers opening []
legal-none opening [] entry rest e = absurd (cc)
legal-none opening (first ∷ prefix) entry rest e = absurd (cc)

-- a new world stands
pub stands-new : (sessions : List (ℕ × ℕ)) (rules : List Rule) (files : List (List Row))
    → Stands (new_world sessions rules files)
stands-new sessions rules files = record {
  seats =
      λ place seat found. let seat_of = λ (session : ℕ × ℕ). new_seat session.0 session.1 in
      let read = map-read seat_of sessions place seat found in
      subst (λ (s : Seat). HasPlayed rules s []) read.1 (played-new rules read.0.0 read.0.1);
  state = refl;
  legal = legal-none (opening_of (new_world sessions rules files));
}

-- a world that was opened anew stands
stands-reopened : (world : World) (state : State) → Stands (reopened world state)
stands-reopened world state = record {
  seats =
      λ place seat found. let read = map-read renewed world.seats place seat found in
      subst (λ (s : Seat). HasPlayed world.rules s []) read.1 (played-new world.rules read.0.typist read.0.book);
  state = refl;
  legal = legal-none (opening_of (reopened world state));
}

-- Keys

-- a world in which a key was started stands
stands-started : (world : World) (place : ℕ) (key : Key) (seat : Seat) → Stands world
    → slice_get world.seats place ≡ Some seat → seat.under_way ≡ None
    → Stands (with_seat world place (with_answers world.rules seat key []))
stands-started world place key seat stands found idle = record {
  seats =
      λ other one read. elim (set-read world.seats place other (with_answers world.rules seat key []) one read) [
        | inl here ↦
            subst (λ (s : Seat). HasPlayed world.rules s (dialog world.history other)) here.1
            (subst (λ p. HasPlayed world.rules (with_answers world.rules seat key []) (dialog world.history p)) here.0
            (played-started world.rules seat key (dialog world.history place) (stands.seats place seat found) idle))
        | inr there ↦ stands.seats other one there.1
      ];
  state = stands.state;
  legal = stands.legal;
}

-- a world stands after the start of a key
stands-key : (world : World) (place : ℕ) (key : Key) (next : World) (found : Option Seat) → Stands world
    → slice_get world.seats place ≡ found → option_and_then (started world place key) found ≡ Some next → Stands next
stands-key world place key next None stands read e = absurd (cc)
stands-key world place key next (Some seat) stands read e =
    grind (arith, stands-started world place key seat stands read)

-- Calls

-- a world in which the call that a place asks was answered stands, where the answer is legal
stands-entered : (world : World) (place : ℕ) (seat : Seat) (call : Call) (answer : Answer) → Stands world
    → slice_get world.seats place ≡ Some seat → asked_in world.rules seat ≡ Some call
    → IsLegalAnswer AnyNumbers (opening_of world) world.state call answer
    → Stands (entered world place seat call answer)
stands-entered world place seat call answer stands found asks legal =
    let entry : Entry = record { number = place; call = call; answer = answer } in record {
      seats =
          λ other one read. elim (set-read world.seats place other (answered world.rules seat answer) one read) [
            | inl here ↦
                subst (λ (s : Seat). HasPlayed world.rules s (dialog (world.history ++ entry ∷ []) other)) here.1
                (subst (λ p. HasPlayed world.rules (answered world.rules seat answer)
                (dialog (world.history ++ entry ∷ []) p)) here.0
                (subst (λ d. HasPlayed world.rules (answered world.rules seat answer) d)
                (sym (dialog-own world.history entry place (eq-eqb place place refl)))
                (played-answered world.rules seat call answer (dialog world.history place)
                (stands.seats place seat found) asks)))
            | inr there ↦
                subst (λ d. HasPlayed world.rules one d)
                (sym (dialog-other world.history entry other there.0 ∙ append-nil (dialog world.history other)))
                (stands.seats other one there.1)
          ];
      state =
          ap (λ state. after_entry state entry) stands.state ∙ sym (state-more world.opened world.history entry);
      legal =
          legal-more AnyNumbers (opening_of world) world.history entry stands.legal
          (subst (λ state. IsLegalAnswer AnyNumbers (opening_of world) state call answer) stands.state legal);
    }

-- the same of an answer that may be none
stands-given : (world : World) (place : ℕ) (seat : Seat) (call : Call) (next : World) (given : Option Answer)
    → Stands world → slice_get world.seats place ≡ Some seat → asked_in world.rules seat ≡ Some call
    → ((answer : Answer) → given ≡ Some answer
    → IsLegalAnswer AnyNumbers (opening_of world) world.state call answer)
    → option_map (entered world place seat call) given ≡ Some next → Stands next
stands-given world place seat call next None stands found asks legal e = absurd (cc)
stands-given world place seat call next (Some answer) stands found asks legal e =
    grind (arith, stands-entered world place seat call answer stands found asks (legal answer refl))

-- a world stands after an answer to the call that a place asks, where such an answer is always legal
stands-answered : (world : World) (place : ℕ) (answer_of : Call → Option Answer) (next : World)
    (found : Option Seat) → Stands world
    → ((call : Call) (answer : Answer) → answer_of call ≡ Some answer
    → IsLegalAnswer AnyNumbers (opening_of world) world.state call answer)
    → slice_get world.seats place ≡ found → option_and_then (answered_by answer_of world place) found ≡ Some next
    → Stands next
stands-answered world place answer_of next None stands legal read e = absurd (cc)
stands-answered world place answer_of next (Some seat) stands legal read e =
    grind (
      arith,
      λ (call : Call) (is : asked_in world.rules seat ≡ Some call).
          stands-given world place seat call next (answer_of call) stands read is (legal call),
    )

-- a reply of the dictionary is legal
served-legal : (world : World) (call : Call) (given : Answer)
    → Some (Done (answer world.files world.state call)) ≡ Some given
    → IsLegalAnswer AnyNumbers (opening_of world) world.state call given
served-legal world call given e = grind arith

-- a refusal for another cause than memory is of a call that would change something
refused-moves : (state : State) (call : Call) (refusal : Refusal) (given : Answer)
    → (if moves state call then Some (Refused refusal) else None) ≡ Some given
    → (moves state call ≡ true) × (Refused refusal ≡ given)
refused-moves state call refusal given e = (grind arith, grind arith)

-- a refusal that may come is legal
refused-legal : (world : World) (refusal : Refusal) (call : Call) (given : Answer)
    → refusal_of world.state refusal call ≡ Some given
    → IsLegalAnswer AnyNumbers (opening_of world) world.state call given
refused-legal world Memory call given e =
    let same : Refused Memory ≡ given = cc in
    subst (λ a. IsLegalAnswer AnyNumbers (opening_of world) world.state call a) same tt
refused-legal world Disk call given e =
    let refused = refused-moves world.state call Disk given e in
    subst (λ a. IsLegalAnswer AnyNumbers (opening_of world) world.state call a) refused.1 refused.0
refused-legal world (JournalFull told need limit) call given e =
    let refused = refused-moves world.state call (JournalFull told need limit) given e in
    subst (λ a. IsLegalAnswer AnyNumbers (opening_of world) world.state call a) refused.1 (refused.0, tt)

-- Events

-- a world stands after an opening with a change in doubt
stands-kept : (world : World) (next : World) (doubt : Option Call)
    → option_map (λ call. reopened world (after world.state call)) doubt ≡ Some next → Stands next
stands-kept world next None e = absurd (cc)
stands-kept world next (Some call) e =
    grind (arith, stands-reopened world (after world.state call))

-- a world stands after an event
stands-stepped : (world next : World) (event : Event) → Stands world → stepped world event ≡ Some next → Stands next
stands-stepped world next (events.Key place key) stands e =
    stands-key world place key next (slice_get world.seats place) stands refl e
stands-stepped world next (events.Serve place) stands e =
    stands-answered world place (λ call. Some (Done (answer world.files world.state call))) next
    (slice_get world.seats place) stands (served-legal world) refl e
stands-stepped world next (events.Refuse place refusal) stands e =
    stands-answered world place (refusal_of world.state refusal) next (slice_get world.seats place) stands
    (refused-legal world refusal) refl e
stands-stepped world next (events.Crash false) stands e =
    grind (arith, stands-reopened world world.state)
stands-stepped world next (events.Crash true) stands e = stands-kept world next (last_of (in_doubt [] world.history)) e

-- a world stands after any events
pub stands-after : (world : World) (happened : List Event) (next : World) → Stands world
    → all_stepped world happened ≡ Some next → Stands next
stands-after world [] next stands e = grind (arith, stands)
stands-after world (event ∷ more) next stands e =
    grind (
      arith,
      λ (one : World) (is : stepped world event ≡ Some one).
          stands-after one more next (stands-stepped world one event stands is),
    )
