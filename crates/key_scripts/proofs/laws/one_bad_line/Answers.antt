use Rattle.key_scripts.proofs.Scripts.{one_first_bad}
use Rattle.key_scripts.proofs.laws.one_bad_line.Goals as goal

pub returns : goal.returns
returns c = one_first_bad c.one_list_of_keys.ensures
