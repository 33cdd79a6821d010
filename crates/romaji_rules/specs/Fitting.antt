-- What holds of every rule set, as tests.
use Rattle.std.specs.Prelude.{ℕ, Bool, true, ◌&&◌, not, nat_le, List, [], ◌∷◌, length}
use Rattle.std.specs.List.{list_all}
use Rattle.std.specs.Str.{bytes_eq}
use Rattle.skk_text.specs.Pairs.{all_pairs}
use Rattle.romaji_rules.specs.declared.rule.Rule.{Rule}
use Rattle.romaji_rules.specs.Typed.{begins_input}

-- whether a character may stand in an input: it is from `!` to `~` and no letter from `A` to `Z`
abbrev pub is_input_char : ℕ → Bool
is_input_char c = nat_le 0x21 c && nat_le c 0x7E && not (nat_le 0x41 c && nat_le c 0x5A)

-- whether a text may be an input: it has 1 to 8 characters, of which each may stand in one
abbrev pub is_input_text : List ℕ → Bool
is_input_text text = nat_le 1 (length text) && nat_le (length text) 8 && list_all is_input_char text

-- whether a text may be the next text of a rule: it is empty or begins an input
abbrev pub is_next_text : List Rule → List ℕ → Bool
is_next_text rules [] = true
is_next_text rules (c ∷ text) = begins_input rules (c ∷ text)

-- whether no two rules have one input
abbrev pub inputs_differ : List Rule → Bool
inputs_differ rules = all_pairs (λ rule other. not (bytes_eq rule.input other.input)) rules

-- whether the rules are a rule set: each has an input and a next text that may be such, and no two have one input
abbrev pub is_rule_set : List Rule → Bool
is_rule_set rules =
    list_all (λ rule. is_input_text rule.input && is_next_text rules rule.next) rules && inputs_differ rules
