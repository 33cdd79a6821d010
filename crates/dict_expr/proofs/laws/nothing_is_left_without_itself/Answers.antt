use Rattle.dict_expr.proofs.Itself.{difference_itself}
use Rattle.dict_expr.proofs.laws.nothing_is_left_without_itself.Goals as goal

pub returns : goal.returns
returns c = difference_itself
