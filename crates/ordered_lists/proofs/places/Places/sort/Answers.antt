use Rattle.std.proofs.Common.{◌∙◌, ℕ, ap, map, rules, slice_get}
use Rattle.std.proofs.lemmas.Fn.{always_returns_same}
use Rattle.ordered_lists.specs.OrderLaws.{item_order, items_apart, order_read}
use Rattle.ordered_lists.specs.Orders.{before, option_less}
use Rattle.ordered_lists.proofs.Sorting.{option_order, sorted_places}
use Rattle.ordered_lists.proofs.places.Places.sort.Goals as goal

-- the sort moves places, and there is one way to sort them
pub returns : goal.returns
returns g c those here differs =
    let keys = g.T.Keyed.keys in
    let key = g.T.Keyed.key in
    let less = before key keys in
    let order = item_order key keys in
    let read = slice_get c.args.items.now in
    let sorted = c.sort_unstable_by.ensures.sorted (λ (place other : ℕ). option_less less (read place) (read other))
    (order_read read (option_less less) (option_order less order))
    (always_returns_same _ _ _ (λ a r q k. search rules)) in
    record {
      differ = differs;
      in_order =
          sorted_places less order read c.self.inside.places.items c.sort_unstable_by.new.self.items those
          (ap (map read) c.self.view_is ∙ here) (items_apart key keys those differs)
          c.sort_unstable_by.ensures.permutation sorted;
    }
