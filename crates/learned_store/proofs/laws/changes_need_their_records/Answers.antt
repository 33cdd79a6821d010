use Rattle.learned_store.proofs.Needs.{needs_record}
use Rattle.learned_store.proofs.laws.changes_need_their_records.Goals as goal

pub returns : goal.returns
returns c = needs_record
