use Rattle.std.proofs.Common.{◌∙◌, sym, ap}
use Rattle.skk_disk.specs.MomentLaws.{each_within}
use Rattle.skk_journal.proofs.Opened.{same_image}
use Rattle.skk_journal.proofs.Results.{on_ok_both}
use Rattle.skk_journal.proofs.opening.sync_both.Goals as goal

pub returns-clause-durable : goal.returns-clause-durable
returns-clause-durable g c =
    let D = g.D.Disk in
    let laws = g.met.D.Disk in
    let mid = c.sync.new.self in
    let new = c.sync-2.new.self in
    on_ok_both c.sync-2.result
    (λ durable seen image left.
    let before = c.sync-2.ensures.images image
    (laws.earlier new (D.time mid) (D.time new) image c.sync-2.ensures.past.later left) in
    same_image image (D.seen new) (c.in_ok-sync.ensures.durable image before ∙ ap (λ s. s.a) (sym seen))
    (durable image left))
    c.sync-2.ensures.durable c.sync-2.ensures.seen

pub returns-clause-images : goal.returns-clause-images
returns-clause-images g c =
    let D = g.D.Disk in
    let old = c.args.disk.now in
    let mid = c.sync.new.self in
    each_within _ _ _ _ _ _ c.sync.ensures.past c.sync-2.ensures.past (D.left_since old (D.time old))
    c.sync.ensures.images
    (λ image left. c.sync.ensures.images image
    (g.met.D.Disk.earlier mid (D.time old) (D.time mid) image c.sync.ensures.past.later
    (c.sync-2.ensures.images image left)))
