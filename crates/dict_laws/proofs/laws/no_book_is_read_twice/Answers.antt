use Rattle.dict_laws.proofs.ReadOnce.{read-once}
use Rattle.dict_laws.proofs.laws.no_book_is_read_twice.Goals as goal

pub returns : goal.returns
returns c state who valid = read-once state who valid
