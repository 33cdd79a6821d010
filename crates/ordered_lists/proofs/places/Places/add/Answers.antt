use Rattle.std.proofs.Common.{sym}
use Rattle.ordered_lists.proofs.Indexes.{index_with}
use Rattle.ordered_lists.proofs.places.Places.add.Goals as goal

pub returns-clause-ok : goal.returns-clause-ok
returns-clause-ok g c those item own new index =
    let place = (rw (c.deref.ensures.value, c.self.view_is) at c.place_of-index.ensures.place) those index in
    let bound = rw (c.deref.ensures.value, c.self.view_is) at c.place_of-index.ensures.bound in
    rw (c.in_ok-insert.ensures.items, c.self.view_is)
    (index_with g.T.Keyed.key g.T.Keyed.keys c.args.items.now _ those index item new _ bound (rw (sym own) at place))
