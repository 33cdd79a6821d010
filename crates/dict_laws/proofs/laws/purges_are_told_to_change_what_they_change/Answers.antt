use Rattle.dict_laws.proofs.PurgesTold.{purge_leaves, purge_alters}
use Rattle.dict_laws.proofs.laws.purges_are_told_to_change_what_they_change.Goals as goal

pub returns-clause-leaves : goal.returns-clause-leaves
returns-clause-leaves c = purge_leaves

pub returns-clause-alters : goal.returns-clause-alters
returns-clause-alters c = purge_alters
