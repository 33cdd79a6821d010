use Rattle.std.proofs.Common.{◌∙◌, arith, drop, sym}
use Rattle.std.proofs.lemmas.Bool.Decides.{nat_tests}
use Rattle.skk_calls.specs.Completions.{completion_limit}
use Rattle.dict_complete.specs.FirstReadings.{full_stays}
use Rattle.dict_complete.proofs.completing.add_readings.Goals as goal

pub returns-then-len-ge-COMPLETION_LIMIT : goal.returns-then-len-ge-COMPLETION_LIMIT
returns-then-len-ge-COMPLETION_LIMIT c =
    sym (full_stays completion_limit c.loop-reading.readings (drop c.loop-reading.reading-index c.args.more.now)
    (grind (arith, nat_tests, c.len.ensures, c.if-len-ge-COMPLETION_LIMIT.true)))
    ∙ c.loop-reading.invariant
