use Rattle.std.proofs.Common.{◌∙◌, [], ap, map, refl}
use Rattle.std.specs.List.{fold, list_all}
use Rattle.skk_calls.specs.RowLaws.{row_parts}
use Rattle.skk_calls.specs.Rows.{Row, is_cand, is_row}
use Rattle.dict_format.specs.Building.{with_item}
use Rattle.dict_format.specs.RowOfItems.{row_of_items}
use Rattle.dict_format.specs.Views.{item_said}
use Rattle.dict_format.proofs.FewCands.{row_of_cands}
use Rattle.dict_format.proofs.row.row_of_cands.Goals as goal

pub cands_of-requires : goal.cands_of-requires
cands_of-requires c =
    let items = map item_said c.args.items.items in
    ap (λ (row : Row). list_all is_cand row.cands)
    (row_of_cands c.args.key items (fold with_item [] items) [] [] c.requires.cands refl refl refl)
    ∙ (row_parts (row_of_items c.args.key items) c.requires.row).cands

pub new-requires : goal.new-requires
new-requires c =
    ap is_row (row_of_cands c.args.key (map item_said c.args.items.items) c.in_ok-cands.cands c.new-blocks.result
    c.new-hides.result c.requires.cands c.in_ok-cands.ensures c.new-blocks.ensures c.new-hides.ensures)
    ∙ c.requires.row

pub returns : goal.returns
returns c =
    c.new.ensures
    ∙ row_of_cands c.args.key (map item_said c.args.items.items) c.in_ok-cands.cands c.new-blocks.result
    c.new-hides.result c.requires.cands c.in_ok-cands.ensures c.new-blocks.ensures c.new-hides.ensures
