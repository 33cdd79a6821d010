use Rattle.dict_laws.proofs.Needs.{by_changes}
use Rattle.dict_laws.proofs.laws.changes_make_states.Goals as goal

pub returns : goal.returns
returns c opening history legal = by_changes opening history legal
