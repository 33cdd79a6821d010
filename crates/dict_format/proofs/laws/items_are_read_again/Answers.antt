use Rattle.dict_format.proofs.AloneAgain.{item_back, item_noted}
use Rattle.dict_format.proofs.laws.items_are_read_again.Goals as goal

pub returns : goal.returns
returns c = record { read = item_back; characters = item_noted }
