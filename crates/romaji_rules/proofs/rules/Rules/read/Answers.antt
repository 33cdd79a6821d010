use Rattle.std.proofs.Common.{◌≡◌, ap, Err}
use Rattle.romaji_rules.specs.declared.rule_fault.RuleFault.TheVariants.{NoText}
use Rattle.romaji_rules.proofs.FileRules.{answered_for}
use Rattle.romaji_rules.proofs.rules.Rules.read.Goals as goal

pub returns-in-Ok-clause-no_text : goal.returns-in-Ok-clause-no_text
returns-in-Ok-clause-no_text c fault =
    let no_fault = c.in-Ok.ensures.exact fault in (
      λ told. absurd (answered_for c.of_text.result c.in-Ok.text.now (NoText fault) c.of_text.ensures told),
      λ is. let never = no_fault.1 is in cc,
    )

pub returns-in-Err-clause-no_text : goal.returns-in-Err-clause-no_text
returns-in-Err-clause-no_text c fault =
    let exact = c.in-Err.ensures.exact fault in (
      λ told. exact.0 (let same : c.in-Err.fault ≡ fault = cc in ap Err same),
      λ is. let same : c.in-Err.fault ≡ fault = (let told = exact.1 is in cc) in ap (λ given. Err (NoText given)) same,
    )
