use Rattle.std.proofs.Common.{length, ◌∙◌, ap}
use Rattle.skk_disk.specs.Image.{part}
use Rattle.skk_disk.specs.Steps.{placed, IsPlaced, PartlyWritten}
use Rattle.skk_disk.specs.SyncLaws.{part_with, read_images}
use Rattle.skk_journal.proofs.through.write_through.Goals as goal

pub returns-clause-placed : goal.returns-clause-placed
returns-clause-placed g c =
    let D = g.D.Disk in
    let laws = g.met.D.Disk in
    let old = c.args.disk.now in
    let mid = c.write_at.new.self in
    let new = c.sync.new.self in
    let file = c.args.file in
    let bytes = c.args.bytes.now in
    read_images file (PartlyWritten (record { at = c.args.at; count = length bytes })) (IsPlaced c.args.at bytes)
    D.tells (D.left_since old (D.time old)) (D.left_since mid (D.time old)) (D.left_since new (D.time new))
    (D.seen old) (D.seen new) (laws.apart old) (laws.reads_image old) c.write_at.ensures.images
    (λ image left. laws.earlier mid (D.time old) (D.time mid) image c.write_at.ensures.past.later
    (c.sync.ensures.images image (laws.earlier new (D.time mid) (D.time new) image c.sync.ensures.past.later left)))
    (λ image left. laws.tells_images new (D.time new) image left)
    (λ tells. ap (part file) (c.in_ok-sync.ensures.seen ∙ c.in_ok-write_at.ensures.written tells)
    ∙ part_with file (placed c.args.at bytes (part file (D.seen old))) (D.seen old))
    c.in_ok-sync.ensures.durable
