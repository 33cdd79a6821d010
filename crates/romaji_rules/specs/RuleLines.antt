-- What is known while the lines of a rule file are read.
use Rattle.std.specs.Prelude.{◌≡◌, ◌≢◌, ◌⊎◌, ◌<◌, ℕ, true, false, None, Some, List, [], ◌∷◌, ◌++◌, length, map}
use Rattle.std.specs.Prelude.{slice_index}
use Rattle.std.specs.Str.{chars}
use Rattle.skk_text.specs.Lines.{line_feed}
use Rattle.romaji_rules.specs.declared.rule.Rule.{Rule}
use Rattle.romaji_rules.specs.declared.rule_file.NumberedRules.{NumberedRules}
use Rattle.romaji_rules.specs.declared.rule_line.RuleFields.{RuleFields}
use Rattle.romaji_rules.specs.RuleFiles.{says_rule, rule_of_line, fault_behind}

-- the rule of fields that may be such
abbrev pub rule_said : RuleFields → Rule
rule_said fields = record {
  input = fields.input.now;
  next = fields.next.now;
  out = record { hira = chars fields.hira.now; kata = chars fields.kata.now };
}

-- a line holds no LF
abbrev pub IsOneLine : List ℕ → Type 0
IsOneLine line = (i : ℕ) → i < length line → slice_index line i ≢ line_feed

-- the rules and the numbers beside them are these numbered rules
pub record AreNumbered (rules : List Rule) (numbers : List ℕ) (numbered : List (ℕ × Rule)) : Type 0 where
  pub rules_are : rules ≡ map (λ n. n.1) numbered
  pub numbers_are : numbers ≡ map (λ n. n.0) numbered

-- a line takes the rules before it to these: it says none, or it spells one and has no fault behind those
abbrev pub TakesLine : NumberedRules → ℕ → List ℕ → NumberedRules → Type 0
TakesLine before number line after =
    ((says_rule line ≡ false) × (after ≡ before))
    ⊎ ((says_rule line ≡ true) × (rule : Rule) × (rule_of_line line ≡ Some rule)
    × (fault_behind before.rules number (rule_of_line line) ≡ None)
    × (after.rules ≡ before.rules ++ rule ∷ []) × (after.numbers.items ≡ before.numbers.items ++ number ∷ []))
