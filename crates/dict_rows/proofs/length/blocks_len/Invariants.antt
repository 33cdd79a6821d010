use Rattle.std.proofs.Common.{◌≡◌, take}
use Rattle.std.specs.List.{flat_map}
use Rattle.skk_calls.specs.Canonical.{with_slash, written_block}
use Rattle.dict_rows.specs.Lengths.{told_len}
use Rattle.dict_rows.proofs.length.blocks_len.Given as goal

-- those so far were counted
abbrev pub invariant-loop-block : goal.invariant-loop-block
invariant-loop-block l = l.bytes ≡ told_len (flat_map (λ x. with_slash (written_block x)) (take l.block-index l.blocks))
