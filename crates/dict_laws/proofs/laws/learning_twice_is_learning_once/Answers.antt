-- What is learnt again changes the stamp alone.
use Rattle.dict_laws.proofs.LearntTwice.{learnt_again}
use Rattle.dict_laws.proofs.laws.learning_twice_is_learning_once.Goals as goal

pub returns : goal.returns
returns c = learnt_again
