use Rattle.std.proofs.Common.{arith}
use Rattle.std.specs.Map.Iter.{deref_pair}
use Rattle.std.proofs.lemmas.Map.Iter.{rest_more}
use Rattle.skk_top.proofs.Loads.{bytes-done, bytes-on}
use Rattle.skk_top.proofs.summary.text_bytes.Goals as goal

pub loop-number-preserved : goal.loop-number-preserved
loop-number-preserved c =
    let sum = c.saturating_add-bytes.ensures in (
      omega (arith, sum),
      bytes-on c.loop-number.number-iterator c.next.new.self (c.in-Some.number.now, c.in-Some.session.now)
          c.loop-number.bytes c.saturating_add-bytes.result c.byte_len.result _
          (rest_more deref_pair c.loop-number.number-iterator c.next.new.self c.next.result (
            c.in-Some.number,
            c.in-Some.session,
          ) c.in-Some.is c.next.ensures.steps)
          (rw c.text.ensures at c.byte_len.ensures) sum c.loop-number.invariant.1,
    )

pub returns : goal.returns
returns c =
    bytes-done c.loop-number.number-iterator c.loop-number.bytes _ c.in-None.ensures.steps.0 c.loop-number.invariant.0
    c.loop-number.invariant.1
