use Rattle.dict_expr.proofs.Itself.{sum_itself}
use Rattle.dict_expr.proofs.laws.nothing_is_added_by_itself.Goals as goal

pub returns : goal.returns
returns c = sum_itself
