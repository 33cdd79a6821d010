use Rattle.learned_store.proofs.Kept.{opened_now}
use Rattle.learned_store.proofs.laws.kept_states_are_recovered.Goals as goal

pub returns : goal.returns
returns g c = opened_now g.D.Disk
