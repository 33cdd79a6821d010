use Rattle.dict_format.proofs.PrintingOrder.{order_moves, order_keeps_keys, order_stays}
use Rattle.dict_format.proofs.laws.printing_order_moves_rows.Goals as goal

pub returns : goal.returns
returns c = record { same_rows = order_moves; keys = order_keeps_keys; once = order_stays }
