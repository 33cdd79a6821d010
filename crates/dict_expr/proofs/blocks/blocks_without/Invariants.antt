use Rattle.std.proofs.Common.{◌≡◌, take}
use Rattle.dict_expr.specs.Rows.{blocks_without}
use Rattle.dict_expr.proofs.blocks.blocks_without.Given as goal

-- what is left of the blocks so far
abbrev pub invariant-loop-block : goal.invariant-loop-block
invariant-loop-block l = l.left ≡ blocks_without (take l.block-index l.blocks) l.others
