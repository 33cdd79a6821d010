use Rattle.std.proofs.Common.{◌≡◌, ◌∙◌, ap, arith}
use Rattle.std.specs.Ordering.{is_eq}
use Rattle.std.proofs.lemmas.Bool.Decides.{nat_tests}
use Rattle.std.proofs.lemmas.Grind.{common_steps}
use Rattle.skk_calls.specs.KeyLaws.{same_key_other}
use Rattle.skk_calls.specs.Rows.{Row, RowKey, same_key}
use Rattle.learn_index.proofs.aged_row.AgedRowKeyed.compare.Goals as goal

-- two keys are the same in either order
same_turned : (key other : RowKey) → same_key key other ≡ same_key other key
same_turned key other = grind (arith, same_key_other key other, same_key_other other key)

pub returns-in-Equal-clause-same : goal.returns-in-Equal-clause-same
returns-in-Equal-clause-same c =
    let one = c.args.self.now.key in
    let other = c.args.other.now.key in
    let own = c.key-in-Equal.ensures.value ∙ ap (λ (row : Row). row.key) c.row-in-Equal.ensures.value in
    let keys : is_eq c.order.result ≡ same_key one other =
    c.order.ensures.equal
    ∙ ap (λ (key : RowKey). same_key key c.key-in-Equal.result.now)
    (c.key.ensures.value ∙ ap (λ (row : Row). row.key) c.row.ensures.value)
    ∙ ap (same_key other) own ∙ same_turned other one in
    grind (arith, common_steps, nat_tests, keys)
