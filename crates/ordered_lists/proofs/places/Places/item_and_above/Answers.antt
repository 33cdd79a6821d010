use Rattle.std.proofs.Common.{◌≡◌, ◌∙◌, Option, Bor, ap, arith, sym}
use Rattle.std.specs.Option.{is_some, option_copied}
use Rattle.ordered_lists.proofs.Indexes.{item_found, near_above}
use Rattle.ordered_lists.proofs.places.Places.item_and_above.Goals as goal

pub returns-clause-item : goal.returns-clause-item
returns-clause-item g c those index =
    let point = (rw (c.deref.ensures.value, c.self.view_is) at c.place_of-index.ensures.place) those index in
    let here = rw (c.deref-2.ensures.value, c.self.view_is) at c.item_at.ensures in
    rw (c.where_same-item.ensures, here)
    (sym (item_found g.T.Keyed.key g.T.Keyed.keys c.args.items.now c.args.self.now those index _ _ point))

there_as_copied : {X : Type 0} (item : Option (Bor X)) → is_some item ≡ is_some (option_copied item)
there_as_copied item = grind arith

pub returns-clause-above : goal.returns-clause-above
returns-clause-above g c those index =
    let point = (rw (c.deref.ensures.value, c.self.view_is) at c.place_of-index.ensures.place) those index in
    let there = c.is_some.ensures ∙ there_as_copied _ ∙ ap is_some (returns-clause-item g c those index) in
    let behind = rw (c.deref-3.ensures.value, c.self.view_is, c.from.ensures, there) at c.item_at-2.ensures in
    behind ∙ near_above g.T.Keyed.key g.T.Keyed.keys c.args.items.now c.args.self.now those index _ _ point
