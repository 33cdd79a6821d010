use Rattle.std.proofs.Common.{◌≡◌, ◌++◌, not, take}
use Rattle.std.specs.List.{filter}
use Rattle.skk_calls.specs.Rows.{has_text}
use Rattle.dict_expr.proofs.blocks.add_blocks_apart.Given as goal

-- the blocks so far were added, but for those whose okurigana are known
abbrev pub invariant-loop-block : goal.invariant-loop-block
invariant-loop-block l =
    l.sum ≡ l.fn.sum ++ filter (λ block. not (has_text l.known block.okuri)) (take l.block-index l.blocks)
