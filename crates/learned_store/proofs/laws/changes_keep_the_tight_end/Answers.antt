use Rattle.learned_store.proofs.TightEnds.{after_most}
use Rattle.learned_store.proofs.laws.changes_keep_the_tight_end.Goals as goal

pub returns : goal.returns
returns c = after_most
