use Rattle.std.proofs.Common.{◌≤◌, ◌-◌, length}
use Rattle.std.specs.Prelude.{⊤}
use Rattle.skk_journal.specs.Reading.{Takes}
use Rattle.skk_journal.proofs.frames.read_frames.Given as goal

-- the records before the byte were read
abbrev pub invariant-loop-payload : goal.invariant-loop-payload
invariant-loop-payload l = record {
  within : l.from ≤ length l.part;
  taken : Takes ⊤ l.part l.at l.from l.fn.records l.records;
}

abbrev pub decreases-loop-payload : goal.decreases-loop-payload
decreases-loop-payload l = length l.part - l.from
