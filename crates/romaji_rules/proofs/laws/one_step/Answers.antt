use Rattle.romaji_rules.proofs.Step.{Fed-computed, Fed-one}
use Rattle.romaji_rules.proofs.laws.one_step.Goals as goal

pub returns : goal.returns
returns c =
    λ rules pending k next out differ. (Fed-one rules differ pending k next out, Fed-computed rules pending k next out)
