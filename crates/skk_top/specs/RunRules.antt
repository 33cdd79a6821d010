-- The rules of a run: the standard table, or those of a file.
use Rattle.std.specs.Prelude.{◌≡◌, ℕ, Option, None, Some, Ok, Err, List, IfSome}
use Rattle.romaji_rules.specs.declared.rule.Rule.{Rule}
use Rattle.romaji_rules.specs.declared.rule_fault.RuleFault.{RuleFault}
use Rattle.romaji_rules.specs.declared.rule_fault.RuleFault.TheVariants as rules
use Rattle.romaji_rules.specs.RuleFiles.{MayBeRules, file_limit, rules_in}
use Rattle.romaji_rules.specs.Standard.{standard}
use Rattle.skk_outside.specs.Moved.{Told}
use Rattle.skk_top.specs.RunFiles.{HasTextFlaw, RefusesFile}
use Rattle.run_endings.specs.Status.{fault_of_text}
use Rattle.run_endings.specs.declared.run_file.RunFile.TheVariants.{Rules}
use Rattle.run_endings.specs.declared.run_file.Flaw.{Flaw}
use Rattle.run_endings.specs.declared.run_file.Flaw.TheVariants.{Line}
use Rattle.run_endings.specs.declared.fault.RunFault.{RunFault}
use Rattle.run_endings.specs.declared.fault.RunFault.TheVariants.{Refused, Memory}

-- what a fault of a rule file is for the run
abbrev pub fault_of_rules : RuleFault → RunFault
fault_of_rules (rules.NoText fault) = fault_of_text Rules fault
fault_of_rules (rules.BadLine line) = Refused Rules (Line line)
fault_of_rules (rules.Twice line) = Refused Rules (Line line)
fault_of_rules (rules.BadNext line) = Refused Rules (Line line)
fault_of_rules rules.Memory = Memory

-- bytes are no rule file, for this flaw: a line of it is at fault, or it is no text
abbrev pub HasRulesFlaw : Flaw → List ℕ → Type 0
HasRulesFlaw (Line number) bytes =
    MayBeRules bytes × (fault : RuleFault) × (rules_in bytes ≡ Err fault)
    × (fault_of_rules fault ≡ Refused Rules (Line number))
HasRulesFlaw flaw bytes = HasTextFlaw file_limit flaw bytes

-- bytes are a rule file with these rules
abbrev pub HaveRules : List ℕ → List Rule → Type 0
HaveRules bytes all = MayBeRules bytes × (rules_in bytes ≡ Ok all)

-- these are the rules of a run: the standard table where no file is named, or else those that the file has, as far as
-- it is told
abbrev pub AreRules : Option Told → List Rule → Type 0
AreRules None all = all ≡ standard
AreRules (Some file) all = IfSome file (λ bytes. HaveRules bytes all)

-- a file is named, and has a property as far as it is told
abbrev pub IsNamed : Option Told → (List ℕ → Type 0) → Type 0
IsNamed None P = ⊥
IsNamed (Some file) P = IfSome file P

-- why the rules of a run are not had: a file is named and refused, or a call on the shelf failed, or memory is out
abbrev pub RefusesRules : Option Told → ℕ → ℕ → RunFault → Type 0
RefusesRules None faults faults' fault = fault ≡ Memory
RefusesRules (Some file) faults faults' fault = RefusesFile Rules HasRulesFlaw file faults faults' fault
