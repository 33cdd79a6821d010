-- The step that is computed is the step of the relation, and where no two rules have one input it is the only one.
use Rattle.std.proofs.Common.{◌≡◌, ℕ, Bool, true, false, cond, not, Option, None, Some, List, [], ◌∷◌, ◌++◌, refl, sym}
use Rattle.std.proofs.Common.{◌∙◌, ap, subst, inl, inr, Contains, arith, Result, Ok, Err, IfOk}
use Rattle.std.specs.Str.{bytes_eq}
use Rattle.std.proofs.lemmas.Slice.Eq.{bytes_eq-Decides}
use Rattle.std.proofs.lemmas.Bool.{both_ways}
use Rattle.romaji_rules.specs.declared.out.Out.{Out}
use Rattle.romaji_rules.specs.declared.rule.Rule.{Rule}
use Rattle.romaji_rules.specs.Fed.{BeginsInput, IsRule, IsInput, Flushed, FedAlone, FedAfter, Fed}
use Rattle.romaji_rules.specs.Fitting.{inputs_differ}
use Rattle.romaji_rules.specs.Output.{nothing, appended}
use Rattle.romaji_rules.specs.Typed.{Step, begins_input, rule_of, out_of, flushed, step_of, after_out, fed_alone}
use Rattle.romaji_rules.specs.Typed.{fed_after, fed}
use Rattle.romaji_rules.proofs.Begins.{begins_input-Decides, rule_of-Some, rule_of-None}
use Rattle.romaji_rules.proofs.Found.{Contains-cases, list_all-Contains}

module _ (rules : List Rule) where
  not-BeginsInput : (text : List ℕ) → begins_input rules text ≡ false → ¬ BeginsInput rules text
  not-BeginsInput text e h = absurd (both_ways (begins_input rules text) e ((begins_input-Decides rules text).1 h))

  -- a rule that is found is that of the text
  found : (text : List ℕ) (rule : Rule) → rule_of rules text ≡ Some rule → IsRule rules text rule.next rule.out
  found text rule e = let h = rule_of-Some rules text rule e in (rule, h.0, h.1, refl, refl)

  pub flushed-exact : (pending : List ℕ) → Flushed rules pending (flushed rules pending)
  flushed-exact pending = by (rule_of rules pending) refl
    where
      by : (o : Option Rule) → rule_of rules pending ≡ o → Flushed rules pending (out_of o)
      by None e = inr (rule_of-None rules pending e, refl)
      by (Some rule) e = inl (rule.next, found pending rule e)

  fed_alone-exact : (c : ℕ) → FedAlone rules c (fed_alone rules c).pending (fed_alone rules c).out
  fed_alone-exact c =
      grind (
        arith,
        (begins_input-Decides rules (c ∷ [])).0,
        not-BeginsInput (c ∷ []),
        rule_of-None rules (c ∷ []),
        found (c ∷ []),
      )

  fed_after-exact : (pending : List ℕ) (c : ℕ)
      → FedAfter rules pending c (fed_after rules pending c).pending (fed_after rules pending c).out
  fed_after-exact pending c = by (begins_input rules text) refl (rule_of rules text) refl
    where
      text : List ℕ
      text = pending ++ c ∷ []

      step : Bool → Option Rule → Step
      step b o =
          cond b (record { pending = text; out = nothing })
          (step_of o (after_out (flushed rules pending) (fed_alone rules c)))

      by : (b : Bool) → begins_input rules text ≡ b → (o : Option Rule) → rule_of rules text ≡ o
          → FedAfter rules pending c (step b o).pending (step b o).out
      by true e o r = inl ((begins_input-Decides rules text).0 e, refl, refl)
      by false e None r =
          inr (inr (
            not-BeginsInput text e,
            rule_of-None rules text r,
            (flushed rules pending, (fed_alone rules c).out, flushed-exact pending, fed_alone-exact c, refl),
          ))
      by false e (Some rule) r = inr (inl (not-BeginsInput text e, found text rule r))

  -- the step that is computed is one of the relation
  pub fed-exact : (pending : List ℕ) (c : ℕ)
      → Fed rules pending c (fed rules pending c).pending (fed rules pending c).out
  fed-exact [] c = fed_alone-exact c
  fed-exact (b ∷ pending) c = fed_after-exact (b ∷ pending) c

  pub Fed-computed : (pending : List ℕ) (c : ℕ) (next : List ℕ) (out : Out)
      → fed rules pending c ≡ record { pending = next; out = out } → Fed rules pending c next out
  Fed-computed pending c next out e =
      let P : Step → Type 0 = λ s. Fed rules pending c s.pending s.out in
      subst P e (fed-exact pending c)

-- two rules with one input are one rule
pub same_rule : (rules : List Rule) → inputs_differ rules ≡ true → (a b : Rule) → Contains rules a → Contains rules b
    → a.input ≡ b.input → a ≡ b
same_rule [] d a b x y e = absurd (omega (arith, x.1))
same_rule (rule ∷ rules) d a b x y e =
    let differs = λ (other : Rule). not (bytes_eq rule.input other.input) in
    grind (
      arith,
      Contains-cases rule rules a x,
      Contains-cases rule rules b y,
      same_rule rules,
      list_all-Contains differs rules a,
      list_all-Contains differs rules b,
      bytes_eq-Decides rule.input a.input,
      bytes_eq-Decides rule.input b.input,
    )

module _ (rules : List Rule) (differ : inputs_differ rules ≡ true) where
  one_rule : (text next : List ℕ) (out : Out) → IsRule rules text next out
      → (rule : Rule) × (rule_of rules text ≡ Some rule) × (rule.next ≡ next) × (rule.out ≡ out)
  one_rule text next out h = by (rule_of rules text) refl
    where
      by : (o : Option Rule) → rule_of rules text ≡ o
          → (rule : Rule) × (rule_of rules text ≡ Some rule) × (rule.next ≡ next) × (rule.out ≡ out)
      by None e = absurd (rule_of-None rules text e (h.0, h.1, h.2))
      by (Some rule) e =
          let at = rule_of-Some rules text rule e in
          let same : h.0 ≡ rule = same_rule rules differ h.0 rule h.1 at.0 (h.2 ∙ sym at.1) in
          (rule, e, sym (ap (λ (r : Rule). r.next) same) ∙ h.3, sym (ap (λ (r : Rule). r.out) same) ∙ h.4)

  pub no_rule : (text : List ℕ) → ¬ IsInput rules text → rule_of rules text ≡ None
  no_rule text none = grind (arith, none, rule_of-Some rules text)

  begins_input-true : (text : List ℕ) → BeginsInput rules text → begins_input rules text ≡ true
  begins_input-true text h = (begins_input-Decides rules text).1 h

  begins_input-false : (text : List ℕ) → ¬ BeginsInput rules text → begins_input rules text ≡ false
  begins_input-false text none = grind (arith, none, begins_input-Decides rules text)

  pub one_flushed : (pending : List ℕ) (out : Out) → Flushed rules pending out → flushed rules pending ≡ out
  one_flushed pending out (inl h) = let rule = one_rule pending h.0 out h.1 in ap out_of rule.1 ∙ rule.3
  one_flushed pending out (inr h) = ap out_of (no_rule pending h.0) ∙ sym h.1

  one_alone : (c : ℕ) (next : List ℕ) (out : Out) → FedAlone rules c next out
      → fed_alone rules c ≡ record { pending = next; out = out }
  one_alone c next out h =
      let text = c ∷ [] in
      grind (arith, begins_input-true text, begins_input-false text, one_rule text next out, no_rule text)

  one_after : (pending : List ℕ) (c : ℕ) (next : List ℕ) (out : Out) → FedAfter rules pending c next out
      → fed_after rules pending c ≡ record { pending = next; out = out }
  one_after pending c next out (inl h) = rw (begins_input-true (pending ++ c ∷ []) h.0) cc
  one_after pending c next out (inr (inl h)) =
      let rule = one_rule (pending ++ c ∷ []) next out h.1 in rw (begins_input-false (pending ++ c ∷ []) h.0, rule.1) cc
  one_after pending c next out (inr (inr h)) =
      let text = pending ++ c ∷ [] in
      let alone = one_alone c next h.2.1 h.2.3 in
      let first = one_flushed pending h.2.0 h.2.2 in
      rw (begins_input-false text h.0, no_rule text h.1) (ap (λ s. after_out (flushed rules pending) s) alone
      ∙ ap (λ o. record { pending = next; out = appended o h.2.1 }) first
      ∙ ap (λ o. record { pending = next; out = o }) (sym h.2.4))

  -- a step of the relation is the one that is computed
  pub Fed-one : (pending : List ℕ) (c : ℕ) (next : List ℕ) (out : Out) → Fed rules pending c next out
      → fed rules pending c ≡ record { pending = next; out = out }
  Fed-one [] c next out h = one_alone c next out h
  Fed-one (b ∷ pending) c next out h = one_after (b ∷ pending) c next out h

-- the same of an answer that may be a fault, where the same is pending as before another call
pub Fed-answered : {E : Type 0} (rules : List Rule) (pending before : List ℕ) (c : ℕ) (next : List ℕ)
    (answer : Result Out E) → pending ≡ before
    → IfOk answer (λ out. fed rules pending c ≡ record { pending = next; out = out })
    → IfOk answer (λ out. Fed rules before c next out)
Fed-answered rules pending before c next (Ok out) e h =
    subst (λ (p : List ℕ). Fed rules p c next out) e (Fed-computed rules pending c next out h)
Fed-answered rules pending before c next (Err failed) e h = h
