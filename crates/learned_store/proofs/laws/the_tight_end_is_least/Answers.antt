use Rattle.learned_store.proofs.TightEnds.{compacted_end, tight_least}
use Rattle.learned_store.proofs.laws.the_tight_end_is_least.Goals as goal

pub returns-clause-compacted : goal.returns-clause-compacted
returns-clause-compacted c = compacted_end

pub returns-clause-least : goal.returns-clause-least
returns-clause-least c = tight_least
