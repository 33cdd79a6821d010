-- What the tests of a rule set tell: whether a text begins an input, and whether it is one.
use Rattle.std.proofs.Common.{◌≡◌, ℕ, ◌<◌, Bool, true, ◌&&◌, nat_lt, nat_eq, None, Some, is_some, List}
use Rattle.std.proofs.Common.{[], ◌∷◌, ◌++◌, refl, ◌∙◌, ◌⊎◌, ap, subst, length, drop, arith}
use Rattle.std.proofs.Common.{Decides, length-append, Contains, IsTrue, ◌↔◌}
use Rattle.std.specs.Borrow.{Bor}
use Rattle.std.specs.List.{list_any, starts_with}
use Rattle.std.specs.Str.{bytes_eq}
use Rattle.std.proofs.lemmas.Bool.Decides.{Decides-or, Decides-ltb, Decides-eqb}
use Rattle.std.proofs.lemmas.List.Folds.{Any-from_list_any}
use Rattle.std.proofs.lemmas.Slice.Eq.{bytes_eq-Decides, starts_is}
use Rattle.std.proofs.lemmas.Bool.{and_from, and_parts, both_ways}
use Rattle.romaji_rules.specs.declared.rule.Rule.{Rule}
use Rattle.romaji_rules.specs.Fed.{IsProperPrefix, BeginsInput, IsInput, GoesOn}
use Rattle.romaji_rules.specs.declared.standing.Standing.{Standing}
use Rattle.romaji_rules.specs.declared.standing.Standing.TheVariants.{Begins, Input}
use Rattle.romaji_rules.specs.Standing.{IsStanding}
use Rattle.romaji_rules.specs.Typed.{begins_input, rule_of, goes_on}
use Rattle.romaji_rules.proofs.Found.{list_any-Contains, find-Some, find-None}

-- a text that goes past its prefix has one more character there
goes_past : (prefix rest : List ℕ) → length prefix < length (prefix ++ rest)
    → (next : ℕ) × (after : List ℕ) × (prefix ++ rest ≡ prefix ++ next ∷ after)
goes_past prefix [] lt = absurd (omega (arith, length-append prefix []))
goes_past prefix (next ∷ after) lt = (next, after, refl)

-- the test of a proper prefix
pub prefix-Decides : (whole prefix : List ℕ)
    → Decides (nat_lt (length prefix) (length whole) && starts_with nat_eq whole prefix) (IsProperPrefix prefix whole)
prefix-Decides whole prefix =
    let longer = nat_lt (length prefix) (length whole) in
    let starts = starts_with nat_eq whole prefix in
    let long : Decides longer (length prefix < length whole) = Decides-ltb (length prefix) (length whole) in
    let same : (starts ≡ true → whole ≡ prefix ++ drop (length prefix) whole)
    × ((rest : List ℕ) → whole ≡ prefix ++ rest → starts ≡ true) = starts_is Decides-eqb whole prefix starts refl in (
      λ e.
          let split : whole ≡ prefix ++ drop (length prefix) whole = same.0 (and_parts longer starts e).1 in
          let past = goes_past prefix (drop (length prefix) whole)
          (subst (λ (bs : List ℕ). length prefix < length bs) split (long.0 (and_parts longer starts e).0)) in
          (past.0, past.1, split ∙ past.2),
      λ h. and_from longer starts (long.1 (omega (arith, ap length h.2, length-append prefix (h.0 ∷ h.1))))
          (same.1 (h.0 ∷ h.1) h.2),
    )

module _ (rules : List Rule) (text : List ℕ) where
  -- whether some input begins with the text
  pub begins_input-Decides : Decides (begins_input rules text) (BeginsInput rules text)
  begins_input-Decides =
      let test : Rule → Bool =
      λ rule. nat_lt (length text) (length rule.input) && starts_with nat_eq rule.input text in (
        λ e. let found = Any-from_list_any test rules e in
            (found.1, (found.0, found.2, found.3), (prefix-Decides found.1.input text).0 found.4),
        λ h. list_any-Contains test rules h.0 h.1 ((prefix-Decides h.0.input text).1 h.2),
      )

  -- the rule that is found has the text for its input
  pub rule_of-Some : (rule : Rule) → rule_of rules text ≡ Some rule → Contains rules rule × (rule.input ≡ text)
  rule_of-Some rule e =
      let found = find-Some (λ r. bytes_eq r.input text) rules rule e in
      (found.0, (bytes_eq-Decides rule.input text).0 found.1)

  -- where none is found the text is no input
  pub rule_of-None : rule_of rules text ≡ None → ¬ IsInput rules text
  rule_of-None e h =
      absurd (both_ways (list_any (λ r. bytes_eq r.input text) rules) (find-None (λ r. bytes_eq r.input text) rules e)
      (list_any-Contains (λ r. bytes_eq r.input text) rules h.0 h.1 ((bytes_eq-Decides h.0.input text).1 h.2)))

  -- whether the text is an input
  pub rule_of-Decides : Decides (is_some (rule_of rules text)) (IsInput rules text)
  rule_of-Decides = (λ t. grind (arith, t, rule_of-Some), λ h. grind (arith, rule_of-None, h))

  -- whether the text is an input or begins one
  pub goes_on-Decides : Decides (goes_on rules text) (GoesOn rules text)
  goes_on-Decides =
      Decides-or (begins_input rules text) (is_some (rule_of rules text)) begins_input-Decides rule_of-Decides

  pub goes_on-exact : (r : Bool) → r ≡ goes_on rules text → IsTrue r ↔ GoesOn rules text
  goes_on-exact r e = rw e goes_on-Decides

-- a text that begins an input, or is one, goes on
pub standing-goes_on : (rules : List Rule) (text whole : List ℕ) (standing : Standing) → IsStanding rules text standing
    → (standing ≡ Begins) ⊎ ((rule : Bor Rule) × (standing ≡ Input rule))
    → text ≡ whole → (IsTrue true ↔ GoesOn rules whole) × (true ≡ goes_on rules whole)
standing-goes_on rules text whole standing is cases same = (goes_on-exact rules whole true goes, goes)
  where
    goes : true ≡ goes_on rules whole
    goes = grind (arith, is, cases, same)
