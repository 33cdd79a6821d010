use Rattle.dict_format.proofs.Exactness.{item_exact}
use Rattle.dict_format.proofs.items.whole_items.Goals as goal

pub read_many-requires : goal.read_many-requires
read_many-requires c = item_exact c.args.part
