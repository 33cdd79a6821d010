use Rattle.std.proofs.Common.{◌≡◌, true}
use Rattle.std.specs.List.{list_all}
use Rattle.skk_calls.specs.Dictionary.{is_plain_reading}
use Rattle.machine_tests.proofs.making.listed_readings.Given as goal

-- each of the readings so far is valid
abbrev pub invariant-loop-reading : goal.invariant-loop-reading
invariant-loop-reading g l = list_all is_plain_reading l.readings ≡ true
