use Rattle.std.proofs.Common.{◌≡◌, ◌∙◌, Bor, map, ap}
use Rattle.skk_calls.specs.Rows.{Row}
use Rattle.dict_expr.proofs.Paired.{walked_sum}
use Rattle.dict_expr.specs.Books.{in_order}
use Rattle.dict_expr.specs.Pairs.{paired, seen}
use Rattle.dict_expr.proofs.books.sum_rows.Goals as goal

abbrev value_of : Bor Row → Row
value_of row = row.now

pub returns-clause-rows : goal.returns-clause-rows
returns-clause-rows c =
    let a = c.args.a.now in
    let b = c.args.b.now in
    let first_pairs : seen c.deref-3.result.now ≡ map (paired (in_order b)) (in_order a) =
    ap seen c.deref-3.ensures.value ∙ c.in_ok-in_first.ensures.seen
    ∙ ap (λ others. map (paired others) (map value_of c.deref.result.now))
    (ap (map value_of) c.deref-2.ensures.value ∙ c.in_ok-second.ensures.order)
    ∙ ap (map (paired (in_order b))) (ap (map value_of) c.deref.ensures.value ∙ c.in_ok-first.ensures.order) in
    let second_pairs : seen c.deref-6.result.now ≡ map (paired (in_order a)) (in_order b) =
    ap seen c.deref-6.ensures.value ∙ c.in_ok-in_second.ensures.seen
    ∙ ap (λ others. map (paired others) (map value_of c.deref-4.result.now))
    (ap (map value_of) c.deref-5.ensures.value ∙ c.in_ok-first.ensures.order)
    ∙ ap (map (paired (in_order a))) (ap (map value_of) c.deref-4.ensures.value ∙ c.in_ok-second.ensures.order) in
    walked_sum a b c.new-rows.result c.add_joined.new.rows c.add_lonely.new.rows (seen c.deref-3.result.now)
    (seen c.deref-6.result.now) c.in_ok-first.ensures.differ c.in_ok-second.ensures.differ first_pairs second_pairs
    c.new-rows.ensures c.in_ok-add_joined.ensures c.in_ok-add_lonely.ensures
