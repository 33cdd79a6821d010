use Rattle.std.proofs.Common.{◌≡◌, ◌∙◌, ◌∷◌, List, ap, map, subst}
use Rattle.std.specs.List.{fold, list_all}
use Rattle.std.specs.Vec.Iter.{into_iter_items}
use Rattle.skk_calls.specs.Rows.{Cand, is_cand}
use Rattle.dict_format.specs.Building.{with_item}
use Rattle.dict_format.specs.declared.items.Item.{Item as MadeItem}
use Rattle.dict_format.specs.Views.{item_said}
use Rattle.dict_format.proofs.FewCands.{before_items}
use Rattle.dict_format.proofs.few_cands.cands_of.Goals as goal

-- what comes of the items that are left comes of the first of them and of those behind it
next_item : (cands all : List Cand) (left behind : List MadeItem) (item : MadeItem) → left ≡ item ∷ behind
    → fold with_item cands (map item_said left) ≡ all
    → fold with_item (with_item cands (item_said item)) (map item_said behind) ≡ all
next_item cands all left behind item is comes =
    subst (λ (items : List MadeItem). fold with_item cands (map item_said items) ≡ all) is comes

pub add_item-requires : goal.add_item-requires
add_item-requires c =
    let behind = into_iter_items c.next.new.self in
    before_items is_cand (with_item c.loop-item.cands (item_said c.in-Some.item)) (map item_said behind)
    (ap (list_all is_cand)
    (next_item c.loop-item.cands _ _ behind c.in-Some.item c.in-Some.ensures.steps.0 c.loop-item.invariant)
    ∙ c.requires)

pub loop-item-preserved : goal.loop-item-preserved
loop-item-preserved c =
    let behind = into_iter_items c.next.new.self in
    ap (λ cands. fold with_item cands (map item_said behind)) c.in_ok-add_item.ensures
    ∙ next_item c.loop-item.cands _ _ behind c.in-Some.item c.in-Some.ensures.steps.0 c.loop-item.invariant
