-- What a rule file comes to: the rules that its lines spell, and its faults.
use Rattle.std.proofs.Common.{◌≡◌, ◌==◌, ◌+◌, ℕ, Bool, true, false, cond, not, ◌&&◌, ◌||◌}
use Rattle.std.proofs.Common.{Option, None, Some, Result, Err, List, [], ◌∷◌, find, map}
use Rattle.std.proofs.Common.{slice_get, refl, sym, ap, ◌∙◌, arith}
use Rattle.std.specs.List.{list_all, position, position_or_len, slice_split}
use Rattle.std.specs.Option.{option_map}
use Rattle.std.proofs.lemmas.List.{length-map}
use Rattle.std.proofs.lemmas.List.Folds.{find_at}
use Rattle.std.proofs.lemmas.Option.{slice_get-map, slice_get_past}
use Rattle.skk_text.specs.Lists.{is_empty}
use Rattle.skk_text.specs.Results.{AnswersUnless}
use Rattle.romaji_rules.specs.declared.rule.Rule.{Rule}
use Rattle.romaji_rules.specs.declared.rule_fault.RuleFault.{RuleFault}
use Rattle.romaji_rules.specs.declared.rule_fault.RuleFault.TheVariants.{NoText, BadLine, Twice, BadNext, Memory}
use Rattle.romaji_rules.specs.Fitting.{is_input_text, is_next_text, inputs_differ, is_rule_set}
use Rattle.romaji_rules.specs.RuleFiles.{rule_of_fields, rule_of_line}
use Rattle.romaji_rules.specs.RuleFiles.{numbered_rules, rules_of, first_given, with_before, fault_behind}
use Rattle.romaji_rules.specs.RuleFiles.{has_bad_next, first_next_fault, entries_of, rules_in}
use Rattle.romaji_rules.specs.RuleLines.{AreNumbered}
use Rattle.romaji_rules.specs.Typed.{begins_input}

-- Lines

-- more than four fields are no rule
pub too_many : (first second third fourth last : List ℕ) (fields : List (List ℕ))
    → fields ≡ first ∷ second ∷ third ∷ fourth ∷ slice_split (λ c. c == 9) last → rule_of_fields fields ≡ None
too_many first second third fourth [] fields e = grind (arith, e)
too_many first second third fourth (c ∷ last) fields e = grind (arith, e)

-- the input of a rule that fields spell may be one
fields_input : (fields : List (List ℕ)) (rule : Rule) → rule_of_fields fields ≡ Some rule
    → is_input_text rule.input ≡ true
fields_input fields rule e = grind (arith, e)

-- so are the inputs of the rules that entries spell
inputs_fit : (entries : List (ℕ × List ℕ)) → list_all (λ rule. is_input_text rule.input) (rules_of entries) ≡ true
inputs_fit [] = refl
inputs_fit (entry ∷ entries) = grind (arith, fields_input (slice_split (λ c. c == 9) entry.1), inputs_fit entries)

-- Next texts

-- the place of the first bad one is that among the numbered rules
same_place : (all : List Rule) (numbered : List (ℕ × Rule)) → position_or_len (λ n. has_bad_next all n.1) numbered
    ≡ position_or_len (has_bad_next all) (map (λ n. n.1) numbered)
same_place all [] = refl
same_place all (n ∷ numbered) = ap (λ k. cond (not (has_bad_next all n.1)) (1 + k) 0) (same_place all numbered)

-- so its number stands there
number_there : (rules : List Rule) (numbers : List ℕ) (numbered : List (ℕ × Rule)) → AreNumbered rules numbers numbered
    → first_next_fault numbered
    ≡ option_map (λ number. BadNext number) (slice_get numbers (position_or_len (has_bad_next rules) rules))
number_there rules numbers numbered are =
    let all = map (λ (n : ℕ × Rule). n.1) numbered in
    let place = position_or_len (λ (n : ℕ × Rule). has_bad_next all n.1) numbered in
    ap (option_map (λ (n : ℕ × Rule). BadNext n.0)) (find_at (λ (n : ℕ × Rule). has_bad_next all n.1) numbered)
    ∙ mapped (slice_get numbered place)
    ∙ ap (option_map (λ number. BadNext number))
    (sym (slice_get-map (λ (n : ℕ × Rule). n.0) numbered place)
    ∙ ap (λ ns. slice_get ns place) (sym are.numbers_are)
    ∙ ap (slice_get numbers)
    (same_place all numbered ∙ ap (λ rs. position_or_len (has_bad_next rs) rs) (sym are.rules_are)))
  where
    mapped : (o : Option (ℕ × Rule)) → option_map (λ (n : ℕ × Rule). BadNext n.0) o
        ≡ option_map (λ number. BadNext number) (option_map (λ (n : ℕ × Rule). n.0) o)
    mapped None = refl
    mapped (Some n) = refl

-- the number of the first bad one, or none
pub bad_number : (rules : List Rule) (numbers : List ℕ) (numbered : List (ℕ × Rule))
    → AreNumbered rules numbers numbered → (place : ℕ) → Some place ≡ position (has_bad_next rules) rules
    → option_map (λ number. BadNext number) (slice_get numbers place) ≡ first_next_fault numbered
bad_number rules numbers numbered are place found = grind (arith, number_there rules numbers numbered are)

pub no_bad_number : (rules : List Rule) (numbers : List ℕ) (numbered : List (ℕ × Rule))
    → AreNumbered rules numbers numbered → None ≡ position (has_bad_next rules) rules
    → None ≡ first_next_fault numbered
no_bad_number rules numbers numbered are none =
    grind (
      arith,
      number_there rules numbers numbered are,
      are.rules_are,
      are.numbers_are,
      slice_get_past numbers (position_or_len (has_bad_next rules) rules),
      length-map numbered (λ n. n.1),
      length-map numbered (λ n. n.0),
    )

-- a rule set

-- where no next text is bad, each is such
next_fits : (all : List Rule) (next : List ℕ) (b : Bool)
    → (not (is_empty next) && (not (begins_input all next) || b)) ≡ false → is_next_text all next ≡ true
next_fits all next b e = grind arith

nexts_fit : (all : List Rule) (numbered : List (ℕ × Rule)) → find (λ n. has_bad_next all n.1) numbered ≡ None
    → list_all (λ rule. is_input_text rule.input) (map (λ n. n.1) numbered) ≡ true
    → list_all (λ rule. is_input_text rule.input && is_next_text all rule.next) (map (λ n. n.1) numbered) ≡ true
nexts_fit all [] none inputs = refl
nexts_fit all (n ∷ numbered) none inputs =
    grind (arith, next_fits all n.1.next (begins_input all n.1.input), nexts_fit all numbered)

-- the rules of entries among which none is bad are a rule set, where no two have one input
pub is_set : (entries : List (ℕ × List ℕ)) → None ≡ first_next_fault (numbered_rules entries)
    → inputs_differ (rules_of entries) ≡ true → is_rule_set (rules_of entries) ≡ true
is_set entries none differ = grind (arith, nexts_fit (rules_of entries) (numbered_rules entries), inputs_fit entries)

-- Faults

-- a fault that does not tell of all bytes of a file
abbrev pub IsLineFault : RuleFault → Type 0
IsLineFault (NoText fault) = ⊥
IsLineFault (BadLine line) = Unit {0}
IsLineFault (Twice line) = Unit {0}
IsLineFault (BadNext line) = Unit {0}
IsLineFault Memory = Unit {0}

-- such a fault, or none
abbrev TellsLine : Option RuleFault → Type 0
TellsLine None = Unit {0}
TellsLine (Some fault) = IsLineFault fault

behind_tells : (before : List Rule) (number : ℕ) (o : Option Rule) → TellsLine (fault_behind before number o)
behind_tells before number rule = grind arith

given_tells : {X : Type 0} (f : X → Option RuleFault) → ((x : X) → TellsLine (f x)) → (xs : List X)
    → TellsLine (first_given f xs)
given_tells f each [] = tt
given_tells f each (x ∷ xs) = grind (arith, each x, given_tells f each xs)

next_tells : (o : Option (ℕ × Rule)) → TellsLine (option_map (λ (n : ℕ × Rule). BadNext n.0) o)
next_tells found = grind arith

-- what a file is refused for is the fault of a line
pub refused_for : (bytes : List ℕ) (fault : RuleFault) → rules_in bytes ≡ Err fault → IsLineFault fault
refused_for bytes fault e =
    grind (
      arith,
      e,
      given_tells (λ (p : List (ℕ × List ℕ) × (ℕ × List ℕ)). fault_behind (rules_of p.0) p.1.0 (rule_of_line p.1.1))
          (λ p. behind_tells (rules_of p.0) p.1.0 (rule_of_line p.1.1)) (with_before [] (entries_of bytes)),
      next_tells
          (find (λ (n : ℕ × Rule). has_bad_next (rules_of (entries_of bytes)) n.1) (numbered_rules (entries_of bytes))),
    )

-- so is what is answered for it
pub answered_for : (answer : Result (List Rule) RuleFault) (bytes : List ℕ) (fault : RuleFault)
    → AnswersUnless Memory answer (rules_in bytes) → answer ≡ Err fault → IsLineFault fault
answered_for answer bytes fault read told = grind (arith, refused_for bytes fault)
