use Rattle.std.proofs.Common.{◌∙◌, ap}
use Rattle.std.specs.List.{list_all}
use Rattle.skk_calls.specs.Rows.{keys_differ}
use Rattle.skk_calls.specs.States.{row_in}
use Rattle.dict_expr.proofs.ByKey.{sum_by_key}
use Rattle.dict_expr.proofs.Differing.{sum_differs}
use Rattle.dict_expr.proofs.Saying.{sum_says}
use Rattle.dict_expr.specs.Books.{says_something}
use Rattle.dict_expr.proofs.books.plus.Goals as goal

pub new-requires : goal.new-requires
new-requires c =
    let made = c.in_ok-rows.ensures in
    ap keys_differ made.rows ∙ sum_differs c.args.a.now c.args.b.now made.first made.second

pub returns-clause-by_key : goal.returns-clause-by_key
returns-clause-by_key c key =
    let made = c.in_ok-rows.ensures in
    ap (row_in key) (c.new.ensures ∙ made.rows) ∙ sum_by_key key c.args.a.now c.args.b.now made.first made.second

pub returns-clause-says_something : goal.returns-clause-says_something
returns-clause-says_something c first second =
    ap (list_all says_something) (c.new.ensures ∙ c.in_ok-rows.ensures.rows)
    ∙ sum_says c.args.a.now c.args.b.now first second
