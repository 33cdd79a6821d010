use Rattle.std.proofs.Common.{sym}
use Rattle.ordered_lists.specs.PlaceLaws.{item_at}
use Rattle.ordered_lists.proofs.ascending.item_of.Goals as goal

pub returns : goal.returns
returns g c =
    rw (c.where_same.ensures, c.item_at.ensures)
    (sym (item_at g.T.Keyed.key g.T.Keyed.keys _ c.args.items.now _ c.requires c.place_of.ensures.place))
