use Rattle.dict_laws.proofs.Counting.{counted_more}
use Rattle.dict_laws.proofs.laws.counting_comes_to_the_tally.Goals as goal

pub returns-clause-more : goal.returns-clause-more
returns-clause-more c = counted_more
