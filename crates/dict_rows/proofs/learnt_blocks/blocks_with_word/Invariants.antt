use Rattle.std.proofs.Common.{◌≡◌, ◌++◌, drop, if◌then◌else◌}
use Rattle.skk_calls.specs.Learning.{blocks_with_word}
use Rattle.dict_rows.proofs.learnt_blocks.blocks_with_word.Given as goal

-- the blocks so far, with what becomes of those that are left, are all
abbrev pub invariant-loop-block : goal.invariant-loop-block
invariant-loop-block l =
    l.after ++ (if l.is_learnt
    then drop l.block-index l.blocks
    else blocks_with_word l.okuri l.cand.word (drop l.block-index l.blocks))
    ≡ blocks_with_word l.okuri l.cand.word l.blocks
