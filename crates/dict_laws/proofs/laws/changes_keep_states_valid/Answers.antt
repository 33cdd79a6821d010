-- What each call makes of a valid state is valid.
use Rattle.dict_laws.proofs.Keeping.{keeps_valid}
use Rattle.dict_laws.proofs.laws.changes_keep_states_valid.Goals as goal

pub returns : goal.returns
returns c = keeps_valid
