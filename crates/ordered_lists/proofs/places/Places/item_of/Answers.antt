use Rattle.std.proofs.Common.{sym}
use Rattle.ordered_lists.proofs.Indexes.{item_found}
use Rattle.ordered_lists.proofs.places.Places.item_of.Goals as goal

pub returns : goal.returns
returns g c those index =
    let point = (rw (c.deref.ensures.value, c.self.view_is) at c.place_of-index.ensures.place) those index in
    let here = rw (c.deref-2.ensures.value, c.self.view_is) at c.item_at.ensures in
    rw (c.where_same.ensures, here)
    (sym (item_found g.T.Keyed.key g.T.Keyed.keys c.args.items.now c.args.self.now those index _ _ point))
