use Rattle.std.proofs.Common.{◌∙◌, ap}
use Rattle.std.specs.Option.{option_map}
use Rattle.romaji_rules.specs.declared.rule_fault.RuleFault.TheVariants.{BadNext}
use Rattle.romaji_rules.proofs.FileRules.{bad_number, no_bad_number}
use Rattle.romaji_rules.proofs.rule_file.NumberedRules.bad_next.Goals as goal

pub returns-in_err-place-clause-first : goal.returns-in_err-place-clause-first
returns-in_err-place-clause-first c numbered are =
    ap (option_map (λ line. BadNext line)) c.from_residual.ensures
    ∙ no_bad_number c.args.self.now.rules c.args.self.now.numbers.items numbered are c.in_err-place.ensures.place

pub returns-clause-first : goal.returns-clause-first
returns-clause-first c numbered are =
    ap (option_map (λ line. BadNext line)) c.number_at.ensures
    ∙ bad_number c.args.self.now.rules c.args.self.now.numbers.items numbered are c.in_ok-place.place
    c.in_ok-place.ensures.place
