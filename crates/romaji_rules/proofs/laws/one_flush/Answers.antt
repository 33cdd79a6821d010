use Rattle.std.proofs.Common.{subst}
use Rattle.romaji_rules.specs.Fed.{Flushed}
use Rattle.romaji_rules.proofs.Step.{flushed-exact, one_flushed}
use Rattle.romaji_rules.proofs.laws.one_flush.Goals as goal

pub returns : goal.returns
returns c = λ rules pending out differ. (
  one_flushed rules differ pending out,
  λ e. subst (Flushed rules pending) e (flushed-exact rules pending),
)
