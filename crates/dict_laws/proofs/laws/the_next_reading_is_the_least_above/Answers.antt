use Rattle.dict_laws.proofs.NextAbove.{none_above, next_above-least}
use Rattle.dict_laws.proofs.laws.the_next_reading_is_the_least_above.Goals as goal

pub returns-clause-some : goal.returns-clause-some
returns-clause-some c = next_above-least

pub returns-clause-none : goal.returns-clause-none
returns-clause-none c = none_above
