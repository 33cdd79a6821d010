-- Workers that are joined, and works that stay under way.
use Rattle.std.proofs.Common.{◌≡◌, ◌⊎◌, inl, inr, ℕ, zero, suc, ◌+◌, ◌≤◌, List, [], ◌∷◌}
use Rattle.std.proofs.Common.{length, map, slice_set, slice_index_or, refl, sym, ap, ◌∙◌, subst, arith}
use Rattle.std.proofs.lemmas.List.Sums.{sum-map}
use Rattle.std.proofs.lemmas.List.{length-map}
use Rattle.std.specs.List.{sum}
use Rattle.skk_outside.specs.declared.outside.Outside.{Ghosts as OutsideGhosts}
use Rattle.romaji_rules.specs.declared.rule.Rule.{Rule}
use Rattle.skk_calls.specs.declared.caller.Caller.{Ghosts as CallerGhosts}
use Rattle.skk_server.specs.declared.end.End.{End}
use Rattle.skk_server.specs.declared.hall.Hall.{Hall}
use Rattle.skk_server.specs.declared.promised.Promised.{Promised}
use Rattle.skk_server.specs.declared.work.Accepted.{Accepted}
use Rattle.skk_server.specs.declared.work.Accepted.TheVariants.{Running, Done, Refused}
use Rattle.skk_server.specs.Stages.{JoinsSome}
use Rattle.skk_server.specs.Visits.{HasWorked}
use Rattle.skk_server.specs.Works.{begun, passes_of, passes_under_way, running_of, BeganWith, IsPromised}
use Rattle.skk_server.specs.Works.{IsUnderWay, AreUnderWay, Joins, AreJoined}

-- Counts of workers

module _ {L C : Type 0} where
  -- one worker at most serves a work
  pub running-few : (work : Accepted L C) → running_of work ≤ 1
  running-few (Running handle was) = omega arith
  running-few (Done worked was) = omega arith
  running-few (Refused link was) = omega arith

-- Single works

module _ {L C : Type 0} (links : OutsideGhosts L) (callers : CallerGhosts C) where
  -- what a worker hands back is made of what it is told to have begun with
  pub worked-promised : (promise was : Promised L C) (link : L) (pass : C) (end : End) → IsPromised promise was
      → HasWorked links callers promise.rules.value promise.link.value promise.pass.value link pass end
      → HasWorked links callers was.rules.value was.link.value was.pass.value link pass end
  worked-promised promise was link pass end is worked =
      subst (λ p. HasWorked links callers was.rules.value was.link.value p link pass end) is.2
      (subst (λ l. HasWorked links callers was.rules.value l promise.pass.value link pass end) is.1
      (subst (λ r. HasWorked links callers r promise.link.value promise.pass.value link pass end) is.0 worked))

  begun-joined : (work work' : Accepted L C) → Joins links callers work work' → begun work' ≡ begun work
  begun-joined (Running handle was) (Running handle' was') joins = absurd joins
  begun-joined (Running handle was) (Done worked was') joins = ap (λ w. w.link.value) joins.0
  begun-joined (Running handle was) (Refused link was') joins = absurd joins
  begun-joined (Done worked was) work' joins = ap begun joins
  begun-joined (Refused link was) work' joins = ap begun joins

  passes-joined : (work work' : Accepted L C) → Joins links callers work work' → passes_of work' ≡ passes_of work
  passes-joined (Running handle was) (Running handle' was') joins = absurd joins
  passes-joined (Running handle was) (Done worked was') joins = refl
  passes-joined (Running handle was) (Refused link was') joins = absurd joins
  passes-joined (Done worked was) work' joins = ap passes_of joins
  passes-joined (Refused link was) work' joins = ap passes_of joins

  -- no worker serves a work that was joined
  pub running-joined : (work work' : Accepted L C) → Joins links callers work work' → running_of work' ≡ 0
  running-joined (Running handle was) (Running handle' was') joins = absurd joins
  running-joined (Running handle was) (Done worked was') joins = refl
  running-joined (Running handle was) (Refused link was') joins = absurd joins
  running-joined (Done worked was) work' joins = ap running_of joins
  running-joined (Refused link was) work' joins = ap running_of joins

  -- what was joined is as it is when it is joined again
  joins-again : (work work' work'' : Accepted L C) → Joins links callers work work' → Joins links callers work' work''
      → work'' ≡ work'
  joins-again (Running handle was) (Running handle' was') work'' joins again = absurd joins
  joins-again (Running handle was) (Done worked was') work'' joins again = again
  joins-again (Running handle was) (Refused link was') work'' joins again = absurd joins
  joins-again (Done worked was) work' work'' joins again =
      subst (λ w. Joins links callers w work'') joins again ∙ sym joins
  joins-again (Refused link was) work' work'' joins again =
      subst (λ w. Joins links callers w work'') joins again ∙ sym joins

module _ {L C : Type 0} (rules : List Rule) (links : OutsideGhosts L) (callers : CallerGhosts C) where
  -- a work is under way as it was, where nothing came behind it
  way-behind : (number : ℕ) (work : Accepted L C) (behind behind' : List (Accepted L C)) → (behind ≡ [] → behind' ≡ [])
      → IsUnderWay rules links callers number work behind → IsUnderWay rules links callers number work behind'
  way-behind number (Running handle was) behind behind' none way = way
  way-behind number (Done worked was) behind behind' none way = way
  way-behind number (Refused link was) behind behind' none way = (way.0, none way.1)

  -- and so it is where it was joined
  way-joined : (number : ℕ) (work work' : Accepted L C) (behind behind' : List (Accepted L C))
      → (behind ≡ [] → behind' ≡ [])
      → Joins links callers work work' → IsUnderWay rules links callers number work behind
      → IsUnderWay rules links callers number work' behind'
  way-joined number (Running handle was) (Running handle' was') behind behind' none joins way = absurd joins
  way-joined number (Running handle was) (Done worked was') behind behind' none joins way = (
    subst (λ (w : Promised L C). BeganWith rules callers number w) (sym joins.0) way.0,
    subst (λ (w : Promised L C). HasWorked links callers w.rules.value w.link.value w.pass.value worked.link
        worked.pass worked.end) (sym joins.0)
        (worked-promised links callers handle.promise was worked.link worked.pass worked.end way.1 joins.1),
  )
  way-joined number (Running handle was) (Refused link was') behind behind' none joins way = absurd joins
  way-joined number (Done worked was) work' behind behind' none joins way =
      subst (λ (w : Accepted L C). IsUnderWay rules links callers number w behind') (sym joins) way
  way-joined number (Refused link was) work' behind behind' none joins way =
      subst (λ (w : Accepted L C). IsUnderWay rules links callers number w behind') (sym joins) (way.0, none way.1)

-- Works in order

module _ {L C : Type 0} (links : OutsideGhosts L) (callers : CallerGhosts C) where
  -- works of which none was joined
  pub none-joined : (works : List (Accepted L C)) → AreJoined links callers works works
  none-joined [] = tt
  none-joined (work ∷ works) = (inl refl, none-joined works)

  one-then : (work work' work'' : Accepted L C) → (work' ≡ work) ⊎ Joins links callers work work'
      → (work'' ≡ work') ⊎ Joins links callers work' work'' → (work'' ≡ work) ⊎ Joins links callers work work''
  one-then work work' work'' (inl same) (inl again) = inl (again ∙ same)
  one-then work work' work'' (inl same) (inr joins) = inr (subst (λ w. Joins links callers w work'') same joins)
  one-then work work' work'' (inr joins) (inl again) = inr (subst (Joins links callers work) (sym again) joins)
  one-then work work' work'' (inr joins) (inr again) =
      inr (subst (Joins links callers work) (sym (joins-again links callers work work' work'' joins again)) joins)

  -- some were joined, and then some more
  pub joined-then : (works works' works'' : List (Accepted L C)) → AreJoined links callers works works'
      → AreJoined links callers works' works'' → AreJoined links callers works works''
  joined-then [] [] [] first more = tt
  joined-then [] [] (work'' ∷ works'') first more = absurd more
  joined-then [] (work' ∷ works') works'' first more = absurd first
  joined-then (work ∷ works) [] works'' first more = absurd first
  joined-then (work ∷ works) (work' ∷ works') [] first more = absurd more
  joined-then (work ∷ works) (work' ∷ works') (work'' ∷ works'') first more =
      (one-then work work' work'' first.0 more.0, joined-then works works' works'' first.1 more.1)

  -- one was joined at its place
  pub joined-at : (works : List (Accepted L C)) (place : ℕ) (work work' : Accepted L C)
      → work ≡ slice_index_or works place work → Joins links callers work work'
      → AreJoined links callers works (slice_set works place work')
  joined-at [] place work work' is joins = tt
  joined-at (other ∷ others) zero work work' is joins =
      (inr (subst (λ w. Joins links callers w work') is joins), none-joined others)
  joined-at (other ∷ others) (suc place) work work' is joins = (inl refl, joined-at others place work work' is joins)

  -- where there was no work there is none
  joined-nothing : (works works' : List (Accepted L C)) → AreJoined links callers works works' → works ≡ []
      → works' ≡ []
  joined-nothing [] [] are none = refl
  joined-nothing [] (work' ∷ works') are none = absurd are
  joined-nothing (work ∷ works) works' are none = absurd (omega (arith, ap length none))

  -- what stays of a work that is joined stays of all
  stays-all : {X : Type 0} (f : Accepted L C → X)
      → ((work work' : Accepted L C) → Joins links callers work work' → f work' ≡ f work)
      → (works works' : List (Accepted L C)) → AreJoined links callers works works' → map f works' ≡ map f works
  stays-all f stays [] [] are = refl
  stays-all f stays [] (work' ∷ works') are = absurd are
  stays-all f stays (work ∷ works) [] are = absurd are
  stays-all f stays (work ∷ works) (work' ∷ works') are =
      ap (λ x. x ∷ map f works') (by are.0) ∙ ap (λ xs. f work ∷ xs) (stays-all f stays works works' are.1)
    where
      by : (work' ≡ work) ⊎ Joins links callers work work' → f work' ≡ f work
      by (inl same) = ap f same
      by (inr joins) = stays work work' joins

  pub begun-all : (works works' : List (Accepted L C)) → AreJoined links callers works works'
      → map begun works' ≡ map begun works
  begun-all works works' are = stays-all begun (begun-joined links callers) works works' are

  pub passes-all : (works works' : List (Accepted L C)) → AreJoined links callers works works'
      → passes_under_way works' ≡ passes_under_way works
  passes-all works works' are =
      sym (sum-map passes_of works') ∙ ap sum (stays-all passes_of (passes-joined links callers) works works' are)
      ∙ sum-map passes_of works

  pub length-all : (works works' : List (Accepted L C)) → AreJoined links callers works works'
      → length works' ≡ length works
  length-all works works' are =
      sym (length-map works' begun) ∙ ap length (begun-all works works' are) ∙ length-map works begun

  pub way-all : (rules : List Rule) (first : ℕ) (works works' : List (Accepted L C))
      → AreJoined links callers works works'
      → AreUnderWay rules links callers first works → AreUnderWay rules links callers first works'
  way-all rules first [] [] are way = tt
  way-all rules first [] (work' ∷ works') are way = absurd are
  way-all rules first (work ∷ works) [] are way = absurd are
  way-all rules first (work ∷ works) (work' ∷ works') are way =
      (by are.0, way-all rules (first + 1) works works' are.1 way.1)
    where
      none : works ≡ [] → works' ≡ []
      none = joined-nothing works works' are.1

      by : (work' ≡ work) ⊎ Joins links callers work work' → IsUnderWay rules links callers first work' works'
      by (inl same) =
          subst (λ (w : Accepted L C). IsUnderWay rules links callers first w works') (sym same)
          (way-behind rules links callers first work works works' none way.0)
      by (inr joins) = way-joined rules links callers first work work' works works' none joins way.0

-- Halls

module _ {L C S : Type 0} {links : OutsideGhosts L} {callers : CallerGhosts C} where
  -- none was joined
  pub joins-none : {hall : Hall L C S} → JoinsSome links callers hall hall
  joins-none {hall = hall} = record {
    joined = none-joined links callers hall.works.items;
    passes_stay = refl;
    ends_stay = refl;
  }

  -- some were, and then some more
  pub joins-then : {hall hall' hall'' : Hall L C S} → JoinsSome links callers hall hall'
      → JoinsSome links callers hall' hall'' → JoinsSome links callers hall hall''
  joins-then {hall = hall} {hall' = hall'} {hall'' = hall''} first further = record {
    joined = joined-then links callers hall.works.items hall'.works.items hall''.works.items first.joined
        further.joined;
    passes_stay = further.passes_stay ∙ first.passes_stay;
    ends_stay = further.ends_stay ∙ first.ends_stay;
  }
