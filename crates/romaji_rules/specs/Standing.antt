-- What a text is among the inputs of a rule set.
use Rattle.std.specs.Prelude.{◌≡◌, ℕ, false, true, None, Some, List}
use Rattle.romaji_rules.specs.declared.rule.Rule.{Rule}
use Rattle.romaji_rules.specs.declared.standing.Standing.{Standing}
use Rattle.romaji_rules.specs.declared.standing.Standing.TheVariants.{Begins, Input, Neither}
use Rattle.romaji_rules.specs.Typed.{begins_input, rule_of}

-- the text begins an input and goes on, is the input of this rule and begins none, or is neither
abbrev pub IsStanding : List Rule → List ℕ → Standing → Type 0
IsStanding rules text Begins = begins_input rules text ≡ true
IsStanding rules text (Input rule) = (begins_input rules text ≡ false) × (rule_of rules text ≡ Some rule.now)
IsStanding rules text Neither = (begins_input rules text ≡ false) × (rule_of rules text ≡ None)
