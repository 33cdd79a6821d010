use Rattle.learned_store.proofs.Changes.{change_leaves}
use Rattle.learned_store.proofs.laws.records_leave_what_changes_leave.Goals as goal

pub returns : goal.returns
returns c = change_leaves
