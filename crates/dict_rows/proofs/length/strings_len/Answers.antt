use Rattle.std.proofs.Common.{◌∷◌}
use Rattle.skk_calls.specs.Canonical.{quoted}
use Rattle.dict_rows.proofs.Lengths.{item_more, spaced}
use Rattle.dict_rows.proofs.length.strings_len.Goals as goal

pub loop-word-preserved : goal.loop-word-preserved
loop-word-preserved c =
    let x = c.word-item.result in
    item_more (λ x. 0x20 ∷ quoted x) c.args.words.now c.loop-word.word-index x (quoted x) c.loop-word.bytes
    c.string_len.result c.len.result c.saturating_add.result c.saturating_add-bytes.result
    c.loop-word-test.true c.word-item.is (spaced (quoted x)) c.loop-word.invariant c.string_len.ensures c.len.ensures
    c.saturating_add.ensures c.saturating_add-bytes.ensures
