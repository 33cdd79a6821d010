use Rattle.skk_text.proofs.KeyFaults.{no_keys, one_place}
use Rattle.skk_text.proofs.laws.one_fault_of_key_text.Goals as goal

pub returns-clause-no_keys : goal.returns-clause-no_keys
returns-clause-no_keys c = no_keys

pub returns-clause-one_place : goal.returns-clause-one_place
returns-clause-one_place c = one_place
