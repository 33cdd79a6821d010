use Rattle.std.proofs.Common.{◌≡◌, ◌≤◌, ◌-◌, length, take, drop}
use Rattle.skk_disk.specs.Image.{part}
use Rattle.skk_disk.specs.Runs.{OnlyReads}
use Rattle.skk_journal.proofs.reading.read_full.Given as goal

-- the head of the room has what the file has from the place on
abbrev pub invariant-loop-filled : goal.invariant-loop-filled
invariant-loop-filled g l = record {
  within : l.filled ≤ length l.into;
  bytes : g.D.Disk.tells → take l.filled l.into ≡ take l.filled (drop l.at (part l.file (g.D.Disk.seen l.fn.disk)));
  reads : OnlyReads g.D.Disk l.fn.disk l.disk;
}

abbrev pub decreases-loop-filled : goal.decreases-loop-filled
decreases-loop-filled g l = length l.into - l.filled
