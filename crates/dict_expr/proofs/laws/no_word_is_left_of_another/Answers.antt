use Rattle.dict_expr.proofs.Lacks.{difference_lacks}
use Rattle.dict_expr.specs.Books.{sum}
use Rattle.dict_expr.proofs.laws.no_word_is_left_of_another.Goals as goal

pub returns-clause-any : goal.returns-clause-any
returns-clause-any c = difference_lacks

pub returns-clause-added : goal.returns-clause-added
returns-clause-added c rows others = difference_lacks (sum rows others) others
