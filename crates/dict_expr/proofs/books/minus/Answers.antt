use Rattle.std.proofs.Common.{◌∙◌, ap}
use Rattle.std.specs.List.{list_all}
use Rattle.skk_calls.specs.Rows.{keys_differ}
use Rattle.skk_calls.specs.States.{row_in}
use Rattle.dict_expr.proofs.ByKey.{difference_by_key}
use Rattle.dict_expr.proofs.Differing.{difference_differs}
use Rattle.dict_expr.proofs.Saying.{difference_says}
use Rattle.dict_expr.specs.Books.{says_something}
use Rattle.dict_expr.proofs.books.minus.Goals as goal

pub new-requires : goal.new-requires
new-requires c =
    let made = c.in_ok-rows.ensures in
    ap keys_differ made.rows ∙ difference_differs c.args.a.now c.args.b.now made.first

pub returns-clause-by_key : goal.returns-clause-by_key
returns-clause-by_key c key =
    let made = c.in_ok-rows.ensures in
    ap (row_in key) (c.new.ensures ∙ made.rows) ∙ difference_by_key key c.args.a.now c.args.b.now made.first

pub returns-clause-says_something : goal.returns-clause-says_something
returns-clause-says_something c first =
    ap (list_all says_something) (c.new.ensures ∙ c.in_ok-rows.ensures.rows)
    ∙ difference_says c.args.a.now c.args.b.now first
