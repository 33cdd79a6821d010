use Rattle.dict_laws.proofs.LeftAlone.{leaves_alone, leaves_count}
use Rattle.dict_laws.proofs.laws.changes_leave_other_rows.Goals as goal

pub returns-clause-count : goal.returns-clause-count
returns-clause-count c = leaves_count

pub returns-clause-row : goal.returns-clause-row
returns-clause-row c = leaves_alone
