-- What is learnt can be taken back while its row has its stamp, and the row is then what it was.
use Rattle.dict_laws.proofs.TakenBack.{stamped_at_once, taken_back, row_taken_back, count_taken_back}
use Rattle.dict_laws.proofs.laws.unlearning_gives_the_row_back.Goals as goal

pub returns-clause-at_once : goal.returns-clause-at_once
returns-clause-at_once c = stamped_at_once

pub returns-clause-reply : goal.returns-clause-reply
returns-clause-reply c = taken_back

pub returns-clause-row : goal.returns-clause-row
returns-clause-row c = row_taken_back

pub returns-clause-count : goal.returns-clause-count
returns-clause-count c = count_taken_back
