use Rattle.std.proofs.Common.{◌≡◌, [], map}
use Rattle.std.specs.List.{fold}
use Rattle.std.specs.Vec.Iter.{into_iter_items}
use Rattle.dict_format.specs.Building.{with_item}
use Rattle.dict_format.specs.Views.{item_said}
use Rattle.dict_format.proofs.few_cands.cands_of.Given as goal

-- the candidates so far, with those of the items that are left, are all
abbrev pub invariant-loop-item : goal.invariant-loop-item
invariant-loop-item l =
    fold with_item l.cands (map item_said (into_iter_items l.item-iterator))
    ≡ fold with_item [] (map item_said l.fn.items.items)
