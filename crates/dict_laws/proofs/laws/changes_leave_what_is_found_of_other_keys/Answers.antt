use Rattle.dict_laws.proofs.LeftAlone.{leaves_found}
use Rattle.dict_laws.proofs.laws.changes_leave_what_is_found_of_other_keys.Goals as goal

pub returns : goal.returns
returns c = leaves_found
