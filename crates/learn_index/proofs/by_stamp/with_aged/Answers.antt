use Rattle.std.proofs.Common.{◌≡◌, ◌∙◌, ap, sym}
use Rattle.std.specs.List.{insert}
use Rattle.skk_calls.specs.Rows.{Row}
use Rattle.ordered_lists.specs.PlaceLaws.{insert_at}
use Rattle.learn_index.specs.Ages.{age, age_keys}
use Rattle.learn_index.proofs.by_stamp.with_aged.Goals as goal

pub returns-clause-items : goal.returns-clause-items
returns-clause-items c =
    let row = c.args.row in
    let own : c.new-row.result ≡ row = c.new-row.ensures in
    let place = c.place_among-place.result in
    let bound = rw c.deref.ensures.value at c.place_among-place.ensures.bound in
    let point = rw (c.deref.ensures.value, own) at c.place_among-place.ensures.place in
    let fits = c.insert-fits.ensures.succeeds c.requires.room in
    rw (c.insert-fits.ensures.items, fits)
    (ap (λ (r : Row). insert c.args.stamps.items place r) own
    ∙ sym (insert_at age age_keys row c.args.stamps.items place bound c.requires.new point))
