use Rattle.std.proofs.Common.{◌∙◌, ap, sym}
use Rattle.std.specs.Option.{option_map}
use Rattle.romaji_rules.specs.declared.rule_fault.RuleFault.TheVariants.{BadNext}
use Rattle.romaji_rules.specs.Fitting.{inputs_differ, is_rule_set}
use Rattle.romaji_rules.specs.RuleFiles.{entries_of, numbered_rules}
use Rattle.romaji_rules.proofs.FileRules.{is_set}
use Rattle.romaji_rules.proofs.rule_file.read_rules.Goals as goal

pub returns-in-None-clause-rule_set : goal.returns-in-None-clause-rule_set
returns-in-None-clause-rule_set c =
    let entries = entries_of c.args.text.now in
    let are = c.in_ok-lines.ensures.ok.1 in
    let none = ap (option_map (λ line. BadNext line)) (sym c.in-None.is)
    ∙ c.bad_next.ensures.first (numbered_rules entries) are in
    ap is_rule_set are.rules_are
    ∙ is_set entries none (ap inputs_differ (sym are.rules_are) ∙ c.bad_next.ensures.differ)
