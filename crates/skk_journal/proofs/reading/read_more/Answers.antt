use Rattle.std.proofs.Common.{◌+◌, take, arith}
use Rattle.std.proofs.lemmas.List.{length-take-le}
use Rattle.skk_disk.specs.Image.{part}
use Rattle.skk_journal.proofs.ReadingOn.{read_behind}
use Rattle.skk_journal.proofs.reading.read_more.Goals as goal

pub returns-clause-bytes : goal.returns-clause-bytes
returns-clause-bytes g c tells =
    let file = part c.args.file (g.D.Disk.seen c.args.disk.now) in
    let filled = c.args.filled in
    read_behind c.read_at.result filled (c.args.at + filled) (take filled c.args.into.now) c.read_at.new.into _ file
    (length-take-le filled c.args.into.now (omega (arith, c.requires.room))) c.read_at.ensures.bound
    (c.read_at.ensures.bytes tells)
