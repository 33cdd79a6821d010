-- Whether the inputs of rules still differ with one rule more.
use Rattle.std.proofs.Common.{◌≡◌, not, ◌&&◌, true, None, is_some, List, [], ◌∷◌, ◌++◌, refl, arith}
use Rattle.std.specs.Str.{bytes_eq}
use Rattle.std.proofs.lemmas.List.Folds.{list_all-append}
use Rattle.romaji_rules.specs.declared.rule.Rule.{Rule}
use Rattle.romaji_rules.specs.Fitting.{inputs_differ}
use Rattle.romaji_rules.specs.Typed.{rule_of}

-- the inputs differ with one rule more, where they do and none of them is its own
pub differ_with : (rules : List Rule) (rule : Rule)
    → inputs_differ (rules ++ rule ∷ []) ≡ (inputs_differ rules && not (is_some (rule_of rules rule.input)))
differ_with [] rule = refl
differ_with (other ∷ rules) rule =
    grind (
      arith,
      list_all-append (λ (r : Rule). not (bytes_eq other.input r.input)) rules (rule ∷ []),
      differ_with rules rule,
    )

-- so with inputs that differ none before the last has its own
pub none_before : (rules : List Rule) (rule : Rule) → inputs_differ (rules ++ rule ∷ []) ≡ true
    → rule_of rules rule.input ≡ None
none_before rules rule e = grind (arith, differ_with rules rule)
