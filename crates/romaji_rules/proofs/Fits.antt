-- What a rule set's tests tell of the texts that may be pending.
use Rattle.std.proofs.Common.{◌≡◌, ℕ, ◌<◌, ◌≤◌, Bool, true, ◌&&◌, nat_le, Some, List, [], ◌∷◌, ◌++◌, sym}
use Rattle.std.proofs.Common.{◌∙◌, ap, subst, inl, inr, ◌⊎◌, Contains, length, IsAscii, arith, zero, suc, length-append}
use Rattle.std.proofs.Common.{lit<}
use Rattle.std.specs.List.{list_all}
use Rattle.std.proofs.lemmas.List.Folds.{list_all-append}
use Rattle.std.proofs.Math.Seq.{get_or-append_seam}
use Rattle.std.proofs.lemmas.Bool.{and_parts}
use Rattle.romaji_rules.specs.declared.out.Out.{Out}
use Rattle.romaji_rules.specs.declared.rule.Rule.{Rule}
use Rattle.romaji_rules.specs.Fed.{IsProperPrefix, BeginsInput, IsRule, FedAlone, FedAfter, Fed}
use Rattle.romaji_rules.specs.Fitting.{is_input_char, is_input_text, is_next_text, inputs_differ, is_rule_set}
use Rattle.romaji_rules.specs.Typed.{begins_input, rule_of, fed}
use Rattle.romaji_rules.proofs.Begins.{begins_input-Decides, rule_of-Some}
use Rattle.romaji_rules.proofs.Found.{list_all-Contains}
use Rattle.romaji_rules.proofs.Step.{Fed-computed}
use Rattle.std.proofs.lemmas.Bool.Decides.{nat_tests}

-- characters that may be typed are ASCII
below_128 : (c : ℕ) → is_input_char c ≡ true → c < 128
below_128 c e = grind (arith, nat_tests)

chars-IsAscii : (text : List ℕ) → list_all is_input_char text ≡ true → IsAscii text
chars-IsAscii [] e i = lit< tt
chars-IsAscii (c ∷ text) e zero = grind (arith, below_128 c)
chars-IsAscii (c ∷ text) e (suc i) = grind (arith, chars-IsAscii text)

-- an input, and what begins one
prefix-IsAscii : (prefix whole : List ℕ) → is_input_text whole ≡ true → IsProperPrefix prefix whole → IsAscii prefix
prefix-IsAscii prefix whole e h =
    let all : list_all is_input_char whole ≡ true =
    (and_parts (nat_le 1 (length whole) && nat_le (length whole) 8) (list_all is_input_char whole) e).1 in
    chars-IsAscii prefix (and_parts (list_all is_input_char prefix) (list_all is_input_char (h.0 ∷ h.1))
    (sym (list_all-append is_input_char prefix (h.0 ∷ h.1)) ∙ ap (list_all is_input_char) (sym h.2) ∙ all)).0

prefix-short : (prefix whole : List ℕ) → is_input_text whole ≡ true → IsProperPrefix prefix whole → length prefix < 8
prefix-short prefix whole e h = grind (arith, nat_tests, length-append prefix (h.0 ∷ h.1))

module _ (rules : List Rule) (fits : is_rule_set rules ≡ true) where
  rule_fits : (rule : Rule) → Contains rules rule → (is_input_text rule.input && is_next_text rules rule.next) ≡ true
  rule_fits rule h =
      let test : Rule → Bool = λ r. is_input_text r.input && is_next_text rules r.next in
      list_all-Contains test rules rule (and_parts (list_all test rules) (inputs_differ rules) fits).0 h

  begins-IsAscii : (text : List ℕ) → BeginsInput rules text → IsAscii text
  begins-IsAscii text h = grind (arith, rule_fits h.0, prefix-IsAscii text h.0.input)

  begins-short : (text : List ℕ) → BeginsInput rules text → length text < 8
  begins-short text h = grind (arith, rule_fits h.0, prefix-short text h.0.input)

  -- a letter behind a text fits there where both begin an input
  pub begins-fits_behind : (text : List ℕ) (letter : ℕ) → begins_input rules (text ++ letter ∷ []) ≡ true
      → (length text < 8) × (letter < 128)
  begins-fits_behind text letter e =
      let begin : BeginsInput rules (text ++ letter ∷ []) = (begins_input-Decides rules (text ++ letter ∷ [])).0 e in
      let short : length (text ++ letter ∷ []) < 8 = begins-short (text ++ letter ∷ []) begin in (
        omega (arith, short, length-append text (letter ∷ [])),
        subst (λ b. b < 128) (get_or-append_seam text letter [] 0)
            (begins-IsAscii (text ++ letter ∷ []) begin (length text)),
      )

  -- a rule's next text is empty or begins an input
  pub next-waits : (rule : Rule) → Contains rules rule → (rule.next ≡ []) ⊎ BeginsInput rules rule.next
  next-waits rule h = grind (arith, rule_fits rule, begins_input-Decides rules rule.next)

  -- so is that of the rule that is found, and it is ASCII, and short enough to be pending
  pub found-waits : (text next : List ℕ) (rule : Rule) → rule_of rules text ≡ Some rule → next ≡ rule.next
      → (next ≡ []) ⊎ BeginsInput rules next
  found-waits text next rule e same =
      subst (λ (n : List ℕ). (n ≡ []) ⊎ BeginsInput rules n) (sym same)
      (next-waits rule (rule_of-Some rules text rule e).0)

  pub found-fits : (text next : List ℕ) (rule : Rule) → rule_of rules text ≡ Some rule → next ≡ rule.next
      → IsAscii next × (length next ≤ 8)
  found-fits text next rule e same =
      grind (arith, found-waits text next rule, begins-short next, begins-IsAscii next, chars-IsAscii [])

  rule-waits : (text next : List ℕ) (out : Out) → IsRule rules text next out → (next ≡ []) ⊎ BeginsInput rules next
  rule-waits text next out h = subst (λ (n : List ℕ). (n ≡ []) ⊎ BeginsInput rules n) h.3 (next-waits h.0 h.1)

  alone-waits : (c : ℕ) (next : List ℕ) (out : Out) → FedAlone rules c next out → (next ≡ []) ⊎ BeginsInput rules next
  alone-waits c next out (inl h) = inr (subst (BeginsInput rules) (sym h.1) h.0)
  alone-waits c next out (inr (inl h)) = rule-waits (c ∷ []) next out h.1
  alone-waits c next out (inr (inr h)) = inl h.2

  after-waits : (pending : List ℕ) (c : ℕ) (next : List ℕ) (out : Out) → FedAfter rules pending c next out
      → (next ≡ []) ⊎ BeginsInput rules next
  after-waits pending c next out (inl h) = inr (subst (BeginsInput rules) (sym h.1) h.0)
  after-waits pending c next out (inr (inl h)) = rule-waits (pending ++ c ∷ []) next out h.1
  after-waits pending c next out (inr (inr h)) = alone-waits c next h.2.1 h.2.3

  -- what is pending after a step is nothing, or begins an input
  pub Fed-waits : (pending : List ℕ) (c : ℕ) (next : List ℕ) (out : Out) → Fed rules pending c next out
      → (next ≡ []) ⊎ BeginsInput rules next
  Fed-waits [] c next out h = alone-waits c next out h
  Fed-waits (b ∷ pending) c next out h = after-waits (b ∷ pending) c next out h

  pub fed-waits : (pending : List ℕ) (c : ℕ) (next : List ℕ) (out : Out)
      → fed rules pending c ≡ record { pending = next; out = out } → (next ≡ []) ⊎ BeginsInput rules next
  fed-waits pending c next out e = Fed-waits pending c next out (Fed-computed rules pending c next out e)
