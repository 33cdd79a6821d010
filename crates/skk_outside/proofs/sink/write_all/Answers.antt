use Rattle.std.proofs.Common.{arith, ◌∙◌}
use Rattle.skk_outside.proofs.KnownBytes.{Appends-more, AppendsPrefix-kept, OnErr-known}
use Rattle.skk_outside.proofs.sink.write_all.Goals as goal

pub returns-in_err-done-clause-err : goal.returns-in_err-done-clause-err
returns-in_err-done-clause-err g c =
    OnErr-known c.from_residual.result c.from_residual.ensures.0
    (AppendsPrefix-kept _ _ _ c.loop.done c.args.bytes.now c.loop.invariant.written c.in_err-done.ensures.bytes)

pub loop-preserved : goal.loop-preserved
loop-preserved g c = record {
  within = grind arith;
  progress = grind arith;
  written =
      Appends-more _ _ _ c.loop.done c.in_ok-done.field-0 c.args.bytes.now c.loop.invariant.written
      c.in_ok-done.ensures.bytes;
  left = c.in_ok-done.ensures.left ∙ c.loop.invariant.left;
  counted = omega (arith, c.loop.invariant.counted, c.in_ok-done.ensures.counted);
}
