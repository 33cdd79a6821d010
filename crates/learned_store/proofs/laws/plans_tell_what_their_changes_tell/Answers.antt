use Rattle.learned_store.proofs.PlansTold.{plan_told}
use Rattle.learned_store.proofs.laws.plans_tell_what_their_changes_tell.Goals as goal

pub returns : goal.returns
returns c = plan_told
