use Rattle.skk_calls.specs.Canonical.{item, with_slash}
use Rattle.dict_rows.proofs.Lengths.{item_more, slashed}
use Rattle.dict_rows.proofs.length.cands_len.Goals as goal

pub loop-cand-preserved : goal.loop-cand-preserved
loop-cand-preserved c =
    let x = c.cand-item.result in
    item_more (λ x. with_slash (item x)) c.args.cands.now c.loop-cand.cand-index x (item x) c.loop-cand.bytes
    c.cand_len.result c.len.result c.saturating_add.result c.saturating_add-bytes.result
    c.loop-cand-test.true c.cand-item.is (slashed (item x)) c.loop-cand.invariant c.cand_len.ensures c.len.ensures
    c.saturating_add.ensures c.saturating_add-bytes.ensures
