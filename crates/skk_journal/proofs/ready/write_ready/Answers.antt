use Rattle.std.proofs.Common.{◌∙◌, ap}
use Rattle.skk_disk.specs.Image.{part}
use Rattle.skk_disk.specs.RunLaws.{advances_on}
use Rattle.skk_disk.specs.Steps.{Makes}
use Rattle.skk_disk.specs.StepLaws.{no_step}
use Rattle.skk_disk.specs.SyncLaws.{read_images}
use Rattle.skk_journal.specs.Filling.{IsReady}
use Rattle.skk_journal.specs.Idle.{IsBlank}
use Rattle.skk_journal.proofs.BlankSteps.{both_blank}
use Rattle.skk_journal.proofs.Results.{on_ok_both}
use Rattle.skk_journal.proofs.ready.write_ready.Goals as goal

pub returns-clause-images : goal.returns-clause-images
returns-clause-images g c =
    both_blank _ _ _ _ _ _ _ c.write_behind_first.ensures.advances.past c.sync.ensures.past
    (g.met.D.Disk.earlier c.write_behind_first.new.disk) c.write_behind_first.ensures.images
    (no_step _ _ _ _ (λ bytes blank. blank) c.sync.ensures.images)

pub returns-clause-advances : goal.returns-clause-advances
returns-clause-advances g c =
    advances_on g.D.Disk _ _ _ c.write_behind_first.ensures.advances
    (record { past = c.sync.ensures.past; counted = c.sync.ensures.counted }) (g.met.D.Disk.earlier c.sync.new.self)

pub returns-clause-ok : goal.returns-clause-ok
returns-clause-ok g c =
    let D = g.D.Disk in
    let laws = g.met.D.Disk in
    let old = c.args.disk.now in
    let mid = c.write_behind_first.new.disk in
    let new = c.sync.new.self in
    on_ok_both c.sync.result
    (λ durable seen.
    read_images c.args.file _ (Makes IsBlank (IsReady c.args.version c.args.generation c.args.records.now)) D.tells
    (D.left_since old (D.time old)) (D.left_since mid (D.time old)) (D.left_since new (D.time new))
    (D.seen old) (D.seen new) (laws.apart old) (laws.reads_image old) c.write_behind_first.ensures.images
    (λ image left. laws.earlier mid (D.time old) (D.time mid) image c.write_behind_first.ensures.advances.past.later
    (c.sync.ensures.images image (laws.earlier new (D.time mid) (D.time new) image c.sync.ensures.past.later left)))
    (λ image left. laws.tells_images new (D.time new) image left)
    (λ tells blank. ap (part c.args.file) seen ∙ c.in_ok-write_behind_first.ensures.ok tells blank)
    durable)
    c.sync.ensures.durable c.sync.ensures.seen
