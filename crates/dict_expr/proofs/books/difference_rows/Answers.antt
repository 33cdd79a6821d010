use Rattle.std.proofs.Common.{◌≡◌, ◌∙◌, Bor, map, ap}
use Rattle.skk_calls.specs.Rows.{Row}
use Rattle.dict_expr.proofs.Paired.{walked_difference}
use Rattle.dict_expr.specs.Books.{in_order}
use Rattle.dict_expr.specs.Pairs.{paired, seen}
use Rattle.dict_expr.proofs.books.difference_rows.Goals as goal

abbrev value_of : Bor Row → Row
value_of row = row.now

pub returns-clause-rows : goal.returns-clause-rows
returns-clause-rows c =
    let a = c.args.a.now in
    let b = c.args.b.now in
    let first_pairs : seen c.deref-3.result.now ≡ map (paired (in_order b)) (in_order a) =
    ap seen c.deref-3.ensures.value ∙ c.in_ok-in_first.ensures.seen
    ∙ ap (λ others. map (paired others) (map value_of c.deref.result.now))
    (ap (map value_of) c.deref-2.ensures.value ∙ c.in_ok-second.ensures.order)
    ∙ ap (map (paired (in_order b))) (ap (map value_of) c.deref.ensures.value ∙ c.in_ok-first.ensures.order) in
    walked_difference a b c.in_ok-rows.rows (seen c.deref-3.result.now) c.in_ok-second.ensures.differ first_pairs
    c.in_ok-rows.ensures
