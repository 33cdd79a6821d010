use Rattle.skk_calls.specs.Canonical.{with_slash, written_word}
use Rattle.dict_rows.proofs.Lengths.{item_more, slashed}
use Rattle.dict_rows.proofs.length.words_len.Goals as goal

pub loop-word-preserved : goal.loop-word-preserved
loop-word-preserved c =
    let x = c.word-item.result in
    item_more (λ x. with_slash (written_word x)) c.args.words.now c.loop-word.word-index x (written_word x)
    c.loop-word.bytes c.word_len.result c.len.result c.saturating_add.result c.saturating_add-bytes.result
    c.loop-word-test.true c.word-item.is (slashed (written_word x)) c.loop-word.invariant c.word_len.ensures
    c.len.ensures c.saturating_add.ensures c.saturating_add-bytes.ensures
