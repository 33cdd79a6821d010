use Rattle.std.proofs.Common.{◌≡◌, take}
use Rattle.skk_calls.specs.Learning.{blocks_without}
use Rattle.dict_rows.proofs.purging.blocks_without.Given as goal

-- those of the blocks so far are left
abbrev pub invariant-loop-block : goal.invariant-loop-block
invariant-loop-block l = l.left ≡ blocks_without l.word (take l.block-index l.blocks)
