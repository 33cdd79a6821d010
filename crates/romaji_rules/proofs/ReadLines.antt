-- How far a rule file is read: the entries of its lines, one after another.
use Rattle.std.proofs.Common.{◌≡◌, ◌≤◌, ◌<◌, ◌+◌, inl, inr, ℕ, Bool, true, false, cond, Option, None, Some, List, []}
use Rattle.std.proofs.Common.{◌∷◌, ◌++◌, map, length, refl, sym, ap, subst, ◌∙◌, arith}
use Rattle.std.specs.List.{enumerate_from, filter, filter_map}
use Rattle.std.specs.Option.{option_map, option_or}
use Rattle.std.proofs.lemmas.List.{append_assoc, append-nil, map-append}
use Rattle.std.proofs.lemmas.List.Elements.{filter_map-append}
use Rattle.skk_text.specs.Lines.{lines_of}
use Rattle.romaji_rules.specs.declared.rule.Rule.{Rule}
use Rattle.romaji_rules.specs.declared.rule_fault.RuleFault.{RuleFault}
use Rattle.romaji_rules.specs.declared.rule_file.NumberedRules.{NumberedRules}
use Rattle.romaji_rules.specs.RuleFiles.{without_returns, says_rule, entries_of, rule_of_line, numbered_rules, rules_of}
use Rattle.romaji_rules.specs.RuleFiles.{first_given, with_before, fault_behind, first_own_fault}
use Rattle.romaji_rules.specs.RuleLines.{AreNumbered, TakesLine}

-- the entries of a text whose first line has this number
abbrev pub entries_from : ℕ → List ℕ → List (ℕ × List ℕ)
entries_from number text = filter (λ entry. says_rule entry.1) (enumerate_from number (lines_of (without_returns text)))

-- the first fault that one of these entries has by itself, of which those stand before
abbrev fault_from : List (ℕ × List ℕ) → List (ℕ × List ℕ) → Option RuleFault
fault_from before entries =
    first_given (λ p. fault_behind (rules_of p.0) p.1.0 (rule_of_line p.1.1)) (with_before before entries)

-- the entries before the rest have no fault by themselves, and these are their rules
pub record IsReadTo (bytes rest : List ℕ) (number : ℕ) (rules : List Rule) (numbers : List ℕ) : Type 0 where
  pub before : List (ℕ × List ℕ)
  pub parts : entries_of bytes ≡ before ++ entries_from (number + 1) rest
  pub faults : first_own_fault (entries_of bytes) ≡ fault_from before (entries_from (number + 1) rest)
  pub numbered : AreNumbered rules numbers (numbered_rules before)
  pub room : number + length rest ≤ length bytes

-- nothing of it
pub none_read : (bytes : List ℕ) (rules : List Rule) (numbers : List ℕ) → rules ≡ [] → numbers ≡ []
    → IsReadTo bytes bytes 0 rules numbers
none_read bytes rules numbers no_rules no_numbers = record {
  before = [];
  parts = refl;
  faults = refl;
  numbered = record { rules_are = no_rules; numbers_are = no_numbers };
  room = omega arith;
}

module _ (bytes rest line behind : List ℕ) (number : ℕ) (before : NumberedRules)
    (first : lines_of (without_returns rest) ≡ line ∷ lines_of (without_returns behind)) where
  -- the entries of the rest begin with that of its first line, where that says a rule
  entries_first : (b : Bool) → says_rule line ≡ b → entries_from (number + 1) rest
      ≡ cond b ((number + 1, line) ∷ entries_from (number + 1 + 1) behind) (entries_from (number + 1 + 1) behind)
  entries_first b e =
      ap (λ lines. filter (λ entry. says_rule entry.1) (enumerate_from (number + 1) lines)) first
      ∙ ap
      (λ c. cond c ((number + 1, line) ∷ entries_from (number + 1 + 1) behind) (entries_from (number + 1 + 1) behind)) e

  module _ (read : IsReadTo bytes rest number before.rules before.numbers.items) where
    -- a line more
    pub line_read : (after : NumberedRules) → length behind < length rest → TakesLine before (number + 1) line after
        → IsReadTo bytes behind (number + 1) after.rules after.numbers.items
    line_read after less (inl skips) =
        let same = entries_first false skips.0 in
        record {
          before = read.before;
          parts = read.parts ∙ ap (λ entries. read.before ++ entries) same;
          faults = read.faults ∙ ap (fault_from read.before) same;
          numbered =
              subst (λ (n : NumberedRules). AreNumbered n.rules n.numbers.items (numbered_rules read.before))
              (sym skips.1) read.numbered;
          room = omega (arith, read.room, less);
        }
    line_read after less (inr (says, rule, spells, no_fault, rules_are, numbers_are)) =
        let entry : ℕ × List ℕ = (number + 1, line) in
        let left = entries_from (number + 1 + 1) behind in
        let same = entries_first true says in
        let more : numbered_rules (read.before ++ entry ∷ []) ≡ numbered_rules read.before ++ (number + 1, rule) ∷ [] =
        filter_map-append (λ (e : ℕ × List ℕ). option_map (λ r. (e.0, r)) (rule_of_line e.1)) read.before (entry ∷ [])
        ∙ ap (λ o. numbered_rules read.before ++ option_list o) spells in
        record {
          before = read.before ++ entry ∷ [];
          parts =
              read.parts ∙ ap (λ entries. read.before ++ entries) same
              ∙ sym (append_assoc read.before (entry ∷ []) left);
          faults =
              read.faults ∙ ap (fault_from read.before) same
              ∙ ap (λ o. option_or o (fault_from (read.before ++ entry ∷ []) left))
              (ap (λ rs. fault_behind rs (number + 1) (rule_of_line line)) (sym read.numbered.rules_are) ∙ no_fault);
          numbered = record {
            rules_are =
                rules_are ∙ ap (λ rs. rs ++ rule ∷ []) read.numbered.rules_are
                ∙ sym (ap (map (λ (n : ℕ × Rule). n.1)) more
                ∙ map-append (λ (n : ℕ × Rule). n.1) (numbered_rules read.before) ((number + 1, rule) ∷ []));
            numbers_are =
                numbers_are ∙ ap (λ ns. ns ++ (number + 1) ∷ []) read.numbered.numbers_are
                ∙ sym (ap (map (λ (n : ℕ × Rule). n.0)) more
                ∙ map-append (λ (n : ℕ × Rule). n.0) (numbered_rules read.before) ((number + 1, rule) ∷ []));
          };
          room = omega (arith, read.room, less);
        }
      where
        -- the numbered rule of a line that spells one
        option_list : Option Rule → List (ℕ × Rule)
        option_list o = filter_map (λ (e : ℕ × Option Rule). option_map (λ r. (e.0, r)) e.1) ((number + 1, o) ∷ [])

    -- a line with a fault by itself
    pub fault_read : (fault : RuleFault) → says_rule line ≡ true
        → fault_behind before.rules (number + 1) (rule_of_line line) ≡ Some fault
        → first_own_fault (entries_of bytes) ≡ Some fault
    fault_read fault says told =
        let entry : ℕ × List ℕ = (number + 1, line) in
        read.faults ∙ ap (fault_from read.before) (entries_first true says)
        ∙ ap (λ o. option_or o (fault_from (read.before ++ entry ∷ []) (entries_from (number + 1 + 1) behind)))
        (ap (λ rs. fault_behind rs (number + 1) (rule_of_line line)) (sym read.numbered.rules_are) ∙ told)

-- all of it
pub all_read : (bytes rest : List ℕ) (number : ℕ) (rules : List Rule) (numbers : List ℕ)
    → IsReadTo bytes rest number rules numbers → rest ≡ []
    → (first_own_fault (entries_of bytes) ≡ None) × AreNumbered rules numbers (numbered_rules (entries_of bytes))
all_read bytes rest number rules numbers read end = (
  read.faults ∙ ap (λ r. fault_from read.before (entries_from (number + 1) r)) end,
  subst (λ (entries : List (ℕ × List ℕ)). AreNumbered rules numbers (numbered_rules entries))
      (sym (read.parts ∙ ap (λ r. read.before ++ entries_from (number + 1) r) end ∙ append-nil read.before))
      read.numbered,
)
