use Rattle.std.proofs.Common.{◌≡◌, drop, fold}
use Rattle.skk_calls.specs.Completions.{completion_limit}
use Rattle.dict_complete.specs.Joined.{with_more}
use Rattle.dict_complete.proofs.completing.add_readings.Given as goal

-- what is left is still to be added
abbrev pub invariant-loop-reading : goal.invariant-loop-reading
invariant-loop-reading l =
    fold (with_more completion_limit) l.readings (drop l.reading-index l.more)
    ≡ fold (with_more completion_limit) l.fn.readings l.more
