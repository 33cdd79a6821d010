use Rattle.std.proofs.Common.{◌≡◌, ◌≤◌, ◌+◌, ◌-◌, ◌^◌, [], length, drop}
use Rattle.skk_disk.specs.Image.{part}
use Rattle.skk_disk.specs.Runs.{OnlyReads}
use Rattle.skk_journal.specs.declared.journal.TheConstants.{PIECE_ROOM}
use Rattle.skk_journal.specs.Records.{first_place}
use Rattle.skk_journal.specs.Reading.{Takes}
use Rattle.skk_journal.proofs.records.read_records.Given as goal

-- the records before the place were read
abbrev pub invariant-loop-at : goal.invariant-loop-at
invariant-loop-at g l = record {
  behind_head : first_place ≤ l.at;
  low : l.at ≤ 2 ^ 62 + PIECE_ROOM;
  room : length l.buffer ≡ PIECE_ROOM;
  taken :
      Takes g.D.Disk.tells (drop first_place (part l.fn.file (g.D.Disk.seen l.fn.disk))) first_place
      (l.at - first_place) [] l.records;
  reads : OnlyReads g.D.Disk l.fn.disk l.disk;
}

abbrev pub decreases-loop-at : goal.decreases-loop-at
decreases-loop-at g l = l.len - l.at
