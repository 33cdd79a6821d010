use Rattle.std.proofs.Common.{length, ◌-◌}
use Rattle.skk_text.proofs.KeyReading.{Read}
use Rattle.skk_text.proofs.key_text.read_keys.Given as goal

abbrev pub invariant-loop-at : goal.invariant-loop-at
invariant-loop-at l = Read l.bytes l.keys l.at

abbrev pub decreases-loop-at : goal.decreases-loop-at
decreases-loop-at l = length l.bytes - l.at
