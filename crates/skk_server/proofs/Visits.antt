-- One connection more that was served, and one more under way.
use Rattle.std.proofs.Common.{◌≡◌, ◌∙◌, ◌≤◌, ℕ, ◌+◌, List, [], ◌∷◌, ◌++◌, length, refl, sym, ap, subst, arith}
use Rattle.std.proofs.Common.{Option, None, Some, append_assoc}
use Rattle.std.proofs.lemmas.List.Sums.{sum_by-cons}
use Rattle.std.specs.Option.{option_map}
use Rattle.skk_outside.specs.declared.outside.Outside.{Ghosts as OutsideGhosts}
use Rattle.romaji_rules.specs.declared.rule.Rule.{Rule}
use Rattle.skk_calls.specs.declared.caller.Caller.{Ghosts as CallerGhosts}
use Rattle.skk_calls.specs.declared.caller.Kept.{Ghosts as KeptGhosts}
use Rattle.skk_server.specs.declared.work.Accepted.{Accepted}
use Rattle.skk_server.specs.declared.work.Accepted.TheVariants.{Running, Done, Refused}
use Rattle.skk_server.specs.Visits.{Visit, IsServed, HasNoPass, AreServed}
use Rattle.skk_server.specs.Works.{passes_of, passes_under_way, IsUnderWay, AreUnderWay}

-- Links that are told

-- one link more came
pub more-came : {L : Type 0} (first : Option (List L)) (known : List L) (link : L) (coming coming' : Option (List L))
    → first ≡ option_map (λ rest. known ++ rest) coming → coming ≡ option_map (λ rest. link ∷ rest) coming'
    → first ≡ option_map (λ rest. (known ++ link ∷ []) ++ rest) coming'
more-came first known link coming None so_far one = so_far ∙ ap (option_map (λ rest. known ++ rest)) one
more-came first known link coming (Some rest) so_far one =
    so_far ∙ (ap (option_map (λ rest. known ++ rest)) one ∙ ap Some (sym (append_assoc known (link ∷ []) rest)))

-- one link more was given back
pub more-over : {L : Type 0} (first : Option (List L)) (known : List L) (link : L) (over over' : Option (List L))
    → over ≡ option_map (λ before. before ++ known) first → over' ≡ option_map (λ links. links ++ link ∷ []) over
    → over' ≡ option_map (λ before. before ++ (known ++ link ∷ [])) first
more-over None known link over over' so_far one = one ∙ ap (option_map (λ links. links ++ link ∷ [])) so_far
more-over (Some before) known link over over' so_far one =
    one ∙ (ap (option_map (λ links. links ++ link ∷ [])) so_far ∙ ap Some (append_assoc before known (link ∷ [])))

-- Connections that were served

module _ {L S : Type 0} (rules : List Rule) (links : OutsideGhosts L) (slips : KeptGhosts S) where
  -- one more, with what is left of its caller
  pub served-more : (first : ℕ) (visits : List (Visit L)) (left : List S) (visit : Visit L) (slip : S)
      → AreServed rules links slips first visits left → length left ≡ length visits → IsServed rules links visit
      → slips.number slip ≡ first + length left → slips.said slip ≡ visit.said
      → AreServed rules links slips first (visits ++ visit ∷ []) (left ++ slip ∷ [])
  served-more first [] [] visit slip are same one number said = (one, (omega (arith, number), said), tt)
  served-more first [] (other ∷ others) visit slip are same one number said = absurd are
  served-more first (other ∷ others) [] visit slip are same one number said = absurd (omega (arith, same))
  served-more first (other ∷ others) (its ∷ theirs) visit slip are same one number said = (
    are.0,
    are.1,
    served-more (first + 1) others theirs visit slip are.2 (omega (arith, same)) one (omega (arith, number)) said,
  )

  -- one more, without a caller
  pub served-last : (first : ℕ) (visits : List (Visit L)) (left : List S) (visit : Visit L)
      → AreServed rules links slips first visits left → length left ≡ length visits → IsServed rules links visit
      → HasNoPass visit → AreServed rules links slips first (visits ++ visit ∷ []) left
  served-last first [] [] visit are same one none = (one, none, refl)
  served-last first [] (other ∷ others) visit are same one none = absurd are
  served-last first (other ∷ others) [] visit are same one none = absurd (omega (arith, same))
  served-last first (other ∷ others) (its ∷ theirs) visit are same one none =
      (are.0, are.1, served-last (first + 1) others theirs visit are.2 (omega (arith, same)) one none)

  -- no more callers were there than connections
  pub slips-few : (first : ℕ) (visits : List (Visit L)) (left : List S) → AreServed rules links slips first visits left
      → length left ≤ length visits
  slips-few first [] [] are = omega arith
  slips-few first [] (other ∷ others) are = absurd are
  slips-few first (other ∷ others) [] are = omega arith
  slips-few first (other ∷ others) (its ∷ theirs) are =
      let few = slips-few (first + 1) others theirs are.2 in omega (arith, few)

-- Works under way

module _ {L C : Type 0} where
  -- a work has one pass at most
  pub pass-few : (work : Accepted L C) → passes_of work ≤ 1
  pass-few (Running handle was) = omega arith
  pass-few (Done worked was) = omega arith
  pass-few (Refused link was) = omega arith

  -- works have no more passes than they are
  pub passes-few : (works : List (Accepted L C)) → passes_under_way works ≤ length works
  passes-few [] = omega arith
  passes-few (work ∷ works) =
      let one = pass-few work in
      let few = passes-few works in omega (arith, one, few, sum_by-cons passes_of work works)

module _ {L C : Type 0} (rules : List Rule) (links : OutsideGhosts L) (callers : CallerGhosts C) where
  -- a work with a pass is under way whatever is behind it
  pass-anyhow : (number : ℕ) (work : Accepted L C) (behind others : List (Accepted L C)) → passes_of work ≡ 1
      → IsUnderWay rules links callers number work behind → IsUnderWay rules links callers number work others
  pass-anyhow number (Running handle was) behind others one is = is
  pass-anyhow number (Done worked was) behind others one is = is
  pass-anyhow number (Refused link was) behind others one is = absurd (omega (arith, one))

  -- one work more behind works that have a pass each
  pub way-more : (first : ℕ) (works : List (Accepted L C)) (work : Accepted L C)
      → AreUnderWay rules links callers first works
      → passes_under_way works ≡ length works → IsUnderWay rules links callers (first + length works) work []
      → AreUnderWay rules links callers first (works ++ work ∷ [])
  way-more first [] work are all one =
      (subst (λ n. IsUnderWay rules links callers n work []) (omega arith) one, tt)
  way-more first (other ∷ others) work are all one =
      let its = pass-few other in
      let theirs = passes-few others in
      let both = sum_by-cons passes_of other others in (
        pass-anyhow first other others (others ++ work ∷ []) (omega (arith, all, its, theirs, both)) are.0,
        way-more (first + 1) others work are.1 (omega (arith, all, its, theirs, both))
            (subst (λ n. IsUnderWay rules links callers n work []) (omega arith) one),
      )
