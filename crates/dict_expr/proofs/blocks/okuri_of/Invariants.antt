use Rattle.std.proofs.Common.{◌≡◌, [], take}
use Rattle.std.specs.List.{fold}
use Rattle.skk_calls.specs.Rows.{okuri_of}
use Rattle.word_sets.specs.Firsts.{with_new}
use Rattle.dict_expr.proofs.blocks.okuri_of.Given as goal

-- the okurigana of the blocks so far are known
abbrev pub invariant-loop-block : goal.invariant-loop-block
invariant-loop-block l = l.known ≡ fold (with_new (λ text. text)) [] (okuri_of (take l.block-index l.blocks))
