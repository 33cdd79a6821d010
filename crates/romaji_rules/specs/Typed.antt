-- What a rule set makes of the next character, as functions that compute over the rules in their order.
use Rattle.std.specs.Prelude.{ℕ, Bool, false, ◌&&◌, ◌||◌, if◌then◌else◌, nat_eq, nat_lt, Option, None, Some, List, []}
use Rattle.std.specs.Prelude.{◌∷◌, ◌++◌, length, is_some, find}
use Rattle.std.specs.List.{list_any, starts_with}
use Rattle.std.specs.Str.{bytes_eq}
use Rattle.romaji_rules.specs.declared.out.Out.{Out}
use Rattle.romaji_rules.specs.declared.rule.Rule.{Rule}
use Rattle.romaji_rules.specs.Output.{nothing, itself, appended}

-- the first rule whose input is the text
abbrev pub rule_of : List Rule → List ℕ → Option Rule
rule_of rules text = find (λ rule. bytes_eq rule.input text) rules

-- whether some input begins with the text and goes on
abbrev pub begins_input : List Rule → List ℕ → Bool
begins_input rules text =
    list_any (λ rule. nat_lt (length text) (length rule.input) && starts_with nat_eq rule.input text) rules

-- whether the text is an input or begins one
abbrev pub goes_on : List Rule → List ℕ → Bool
goes_on rules text = begins_input rules text || is_some (rule_of rules text)

-- whether something is pending, and a character goes on with it
abbrev pub extends_pending : List Rule → List ℕ → ℕ → Bool
extends_pending rules [] c = false
extends_pending rules (b ∷ pending) c = goes_on rules ((b ∷ pending) ++ c ∷ [])

-- the output of a rule, or nothing where there is no rule
abbrev pub out_of : Option Rule → Out
out_of None = nothing
out_of (Some rule) = rule.out

-- what comes out of what is pending when it is flushed
abbrev pub flushed : List Rule → List ℕ → Out
flushed rules pending = out_of (rule_of rules pending)

-- what is pending after a character, and what comes out of it
pub record Step : Type 0 where
  pub pending : List ℕ
  pub out : Out

-- the step to a rule's next text and output, or else another step
abbrev pub step_of : Option Rule → Step → Step
step_of None other = other
step_of (Some rule) other = record { pending = rule.next; out = rule.out }

-- the step of a character with nothing pending
abbrev pub fed_alone : List Rule → ℕ → Step
fed_alone rules c =
    if begins_input rules (c ∷ []) then record { pending = c ∷ []; out = nothing }
    else step_of (rule_of rules (c ∷ [])) (record { pending = []; out = itself c })

-- a step with another output before its own
abbrev pub after_out : Out → Step → Step
after_out first step = record { pending = step.pending; out = appended first step.out }

-- the step of a character after what is pending
abbrev pub fed_after : List Rule → List ℕ → ℕ → Step
fed_after rules pending c =
    let text = pending ++ c ∷ [] in
    if begins_input rules text then record { pending = text; out = nothing }
    else step_of (rule_of rules text) (after_out (flushed rules pending) (fed_alone rules c))

-- the step of a character, whether something is pending before it or nothing
abbrev pub fed : List Rule → List ℕ → ℕ → Step
fed rules [] c = fed_alone rules c
fed rules (b ∷ pending) c = fed_after rules (b ∷ pending) c
