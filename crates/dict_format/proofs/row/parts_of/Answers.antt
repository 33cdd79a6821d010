use Rattle.std.proofs.Common.{◌∷◌, [], List, sym, subst, map}
use Rattle.std.proofs.lemmas.List.{map-append}
use Rattle.dict_format.specs.Building.{SaysItems}
use Rattle.dict_format.specs.Items.{Item}
use Rattle.dict_format.specs.Views.{item_said}
use Rattle.dict_format.proofs.row.parts_of.Goals as goal

pub loop-item-preserved : goal.loop-item-preserved
loop-item-preserved c =
    subst (λ (items : List Item). SaysItems c.add_item.new.parts items)
    (sym (map-append item_said c.loop-item.yielded (c.in-Some.item ∷ [])))
    (c.in_ok-add_item.ensures (map item_said c.loop-item.yielded) c.loop-item.invariant)
