-- A rule file: its lines, the rules that they spell, and the fault for which it is refused.
use Rattle.std.specs.Prelude.{ℕ, Bool, true, false, ◌==◌, ◌&&◌, ◌||◌, not, nat_le, nat_lt, if◌then◌else◌}
use Rattle.std.specs.Prelude.{Option, None, Some, Result, Ok, Err, List, [], ◌∷◌, ◌++◌, find, is_some, length, map}
use Rattle.std.specs.List.{enumerate_from, filter, filter_map, list_all, slice_split}
use Rattle.std.specs.Option.{option_map, option_or}
use Rattle.std.specs.Str.{chars}
use Rattle.skk_text.specs.Lines.{line_feed, lines_of}
use Rattle.skk_text.specs.Lists.{is_empty}
use Rattle.skk_text.specs.TextFiles.{IsTextWithin}
use Rattle.romaji_rules.specs.declared.rule.Rule.{Rule}
use Rattle.romaji_rules.specs.declared.rule_fault.RuleFault.{RuleFault}
use Rattle.romaji_rules.specs.declared.rule_fault.RuleFault.TheVariants.{BadLine, Twice, BadNext}
use Rattle.romaji_rules.specs.Fitting.{is_input_text}
use Rattle.romaji_rules.specs.Typed.{begins_input, rule_of}

-- the most bytes of a file
abbrev pub file_limit : ℕ
file_limit = 1048576

-- the most rules of a file
abbrev pub rule_limit : ℕ
rule_limit = 4096

-- Lines

-- a text begins with LF
abbrev pub begins_with_end : List ℕ → Bool
begins_with_end [] = false
begins_with_end (c ∷ text) = c == line_feed

-- a text without each CR that stands right before an LF
abbrev pub without_returns : List ℕ → List ℕ
without_returns [] = []
without_returns (c ∷ text) =
    if c == 13 && begins_with_end text then without_returns text else c ∷ without_returns text

-- a line says a rule: it is neither empty nor a comment, which begins with `#`
abbrev pub says_rule : List ℕ → Bool
says_rule [] = false
says_rule (c ∷ line) = not (c == 0x23)

-- the lines of a file that say a rule, each with its number, counted from 1 over all lines
abbrev pub entries_of : List ℕ → List (ℕ × List ℕ)
entries_of bytes = filter (λ entry. says_rule entry.1) (enumerate_from 1 (lines_of (without_returns bytes)))

-- Rules

-- whether a character may stand in an output: it is greater than the space, and is not U+007F
abbrev pub is_output_char : ℕ → Bool
is_output_char c = nat_lt 0x20 c && not (c == 0x7F)

-- whether a field may be an output: it has at most 24 bytes, and each of its characters may stand in one
abbrev pub is_output : List ℕ → Bool
is_output field = nat_le (length field) 24 && list_all is_output_char (chars field)

-- whether four fields may be those of a rule: an input, a next text of at most 8 bytes, and the outputs in both kana
abbrev pub fields_fit : List ℕ → List ℕ → List ℕ → List ℕ → Bool
fields_fit input next hira kata = is_input_text input && (nat_le (length next) 8 && (is_output hira && is_output kata))

-- the rule of four fields that may be such
abbrev pub rule_of_fields : List (List ℕ) → Option Rule
rule_of_fields (input ∷ next ∷ hira ∷ kata ∷ []) =
    if fields_fit input next hira kata
    then Some (record { input = input; next = next; out = record { hira = chars hira; kata = chars kata } }) else None
rule_of_fields fields = None

-- the rule that a line spells by its fields, between which TABs stand
abbrev pub rule_of_line : List ℕ → Option Rule
rule_of_line line = rule_of_fields (slice_split (λ c. c == 9) line)

-- the rules that entries spell, each with the number of its line
abbrev pub numbered_rules : List (ℕ × List ℕ) → List (ℕ × Rule)
numbered_rules entries = filter_map (λ entry. option_map (λ rule. (entry.0, rule)) (rule_of_line entry.1)) entries

-- the rules that entries spell
abbrev pub rules_of : List (ℕ × List ℕ) → List Rule
rules_of entries = map (λ numbered. numbered.1) (numbered_rules entries)

-- Faults

-- the first value that a function gives of one of the items, if it gives any
abbrev pub first_given : {X Y : Type 0} → (X → Option Y) → List X → Option Y
first_given f [] = None
first_given f (x ∷ xs) = option_or (f x) (first_given f xs)

-- each item of a list together with all before it, of which these stand before the list
abbrev pub with_before : {X : Type 0} → List X → List X → List (List X × X)
with_before before [] = []
with_before before (x ∷ xs) = (before, x) ∷ with_before (before ++ x ∷ []) xs

-- the fault of a line of this number behind these rules, by the rule that it spells: it is a bad line where it spells
-- none or as many rules stand before it as a file may have, and else it comes twice where one of them has its input
abbrev pub fault_behind : List Rule → ℕ → Option Rule → Option RuleFault
fault_behind before number None = Some (BadLine number)
fault_behind before number (Some rule) =
    if nat_le rule_limit (length before) then Some (BadLine number)
    else if is_some (rule_of before rule.input) then Some (Twice number)
    else None

-- the first fault that an entry has by itself, behind the rules of those before it
abbrev pub first_own_fault : List (ℕ × List ℕ) → Option RuleFault
first_own_fault entries =
    first_given (λ p. fault_behind (rules_of p.0) p.1.0 (rule_of_line p.1.1)) (with_before [] entries)

-- the next text of a rule is bad among all rules: it is not empty, and begins no input or stands behind an input that
-- begins another
abbrev pub has_bad_next : List Rule → Rule → Bool
has_bad_next rules rule =
    not (is_empty rule.next) && (not (begins_input rules rule.next) || begins_input rules rule.input)

-- the fault of the first rule whose next text is bad among all
abbrev pub first_next_fault : List (ℕ × Rule) → Option RuleFault
first_next_fault all =
    option_map (λ numbered. BadNext numbered.0)
    (find (λ numbered. has_bad_next (map (λ other. other.1) all) numbered.1) all)

-- a fault, where there is one, and else another answer
abbrev pub refused_or : {X : Type 0} → Option RuleFault → Result X RuleFault → Result X RuleFault
refused_or None answer = answer
refused_or (Some fault) answer = Err fault

-- bytes may be a rule file: they are not too many, and UTF-8
abbrev pub MayBeRules : List ℕ → Type 0
MayBeRules bytes = IsTextWithin file_limit bytes

-- whether a fault is that of a line
abbrev pub is_of_line : RuleFault → Bool
is_of_line (BadLine line) = true
is_of_line (Twice line) = true
is_of_line (BadNext line) = true
is_of_line fault = false

-- what a file comes to that is UTF-8 and not too long: the first fault that a line has by itself, or else the first
-- among all rules, or else the rules of its lines
abbrev pub rules_in : List ℕ → Result (List Rule) RuleFault
rules_in bytes =
    let entries = entries_of bytes in
    refused_or (first_own_fault entries)
    (refused_or (first_next_fault (numbered_rules entries)) (Ok (rules_of entries)))
