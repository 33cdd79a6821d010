use Rattle.std.proofs.Common.{◌≡◌, ◌++◌, map, take}
use Rattle.dict_expr.specs.Rows.{block_with}
use Rattle.dict_expr.proofs.blocks.add_blocks_with.Given as goal

-- the blocks so far were added, each with the words that others have for its okurigana
abbrev pub invariant-loop-block : goal.invariant-loop-block
invariant-loop-block l = l.sum ≡ l.fn.sum ++ map (block_with l.others) (take l.block-index l.blocks)
