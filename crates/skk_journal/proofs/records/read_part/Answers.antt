use Rattle.std.proofs.Common.{length, drop, take, arith}
use Rattle.skk_disk.specs.Image.{part}
use Rattle.skk_journal.proofs.Parts.{stops_of_part}
use Rattle.skk_journal.proofs.records.read_part.Goals as goal

pub returns-clause-next : goal.returns-clause-next
returns-clause-next g c =
    let into = c.read_full.new.into in
    stops_of_part g.D.Disk.tells (drop c.args.at (part c.args.file (g.D.Disk.seen c.args.disk.now)))
    (take c.in_ok-n.n into)
    (length into) c.args.at c.args.records.now c.read_frames.new.records c.in_ok-stop.stop c.in_ok-n.ensures.bytes
    (omega (arith, c.requires.room)) c.in_ok-stop.ensures
