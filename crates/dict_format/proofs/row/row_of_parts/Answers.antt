use Rattle.std.proofs.Common.{◌≡◌, ◌∙◌, ap, map, refl}
use Rattle.std.specs.List.{list_all, filter, flat_map}
use Rattle.skk_calls.specs.RowLaws.{row_parts}
use Rattle.skk_calls.specs.Rows.{Row, is_block, is_cand, is_row}
use Rattle.dict_format.specs.Building.{valid_blocks}
use Rattle.dict_format.specs.RowOfItems.{row_of_items, has_word, block_in}
use Rattle.dict_format.specs.Views.{item_said}
use Rattle.dict_format.proofs.Blocks.{joined-made}
use Rattle.dict_format.proofs.row.row_of_parts.Goals as goal
use Rattle.dict_format.proofs.row.row_of_parts.Goals.{In_ok-hides}

pub into_cands-requires : goal.into_cands-requires
into_cands-requires c =
    ap (list_all is_cand) c.in_ok-cands.ensures.cands
    ∙ (row_parts (row_of_items c.args.key (map item_said c.args.items.items)) c.requires).cands

pub blocks_of-requires : goal.blocks_of-requires
blocks_of-requires c =
    let items = map item_said c.args.items.items in
    ap (list_all is_block) (ap valid_blocks c.in_ok-cands.ensures.blocks
    ∙ joined-made (filter has_word (flat_map block_in items)))
    ∙ (row_parts (row_of_items c.args.key items) c.requires).blocks

-- the parts are those of the row
made : (c : In_ok-hides)
    → (let row : Row = record {
      key = c.args.key;
      cands = c.in_ok-cands-2.cands;
      blocks = c.in_ok-blocks.blocks;
      hides = c.in_ok-hides.hides;
      stamp = 0;
    } in
    row ≡ row_of_items c.args.key (map item_said c.args.items.items))
made c =
    let says = c.in_ok-cands.ensures in
    let cands = c.in_ok-cands-2.ensures.value ∙ says.cands in
    let blocks = c.in_ok-blocks.ensures ∙ ap valid_blocks says.blocks
    ∙ joined-made (filter has_word (flat_map block_in (map item_said c.args.items.items))) in
    let hides = c.in_ok-hides.ensures.value ∙ says.hides in
    rw (cands, blocks, hides) refl

pub new-requires : goal.new-requires
new-requires c = ap is_row (made c) ∙ c.requires

pub returns : goal.returns
returns c = c.new.ensures ∙ made (goal.at.returns c).In_ok-hides
