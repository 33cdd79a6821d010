use Rattle.std.proofs.Common.{◌∙◌, sym, subst}
use Rattle.romaji_rules.specs.Fed.{Flushed}
use Rattle.romaji_rules.proofs.Step.{flushed-exact}
use Rattle.romaji_rules.proofs.rules.Rules.flush.Goals as goal

pub returns-clause-exact : goal.returns-clause-exact
returns-clause-exact c =
    subst (Flushed c.args.self.now c.args.pending.now) (sym (c.of.ensures ∙ c.pending_output-out.ensures))
    (flushed-exact c.args.self.now c.args.pending.now)
