use Rattle.std.proofs.Common.{sym, subst, IsErrAnd}
use Rattle.skk_top.specs.Disks.{moved_disk, RefusesLearned}
use Rattle.run_endings.specs.declared.finish.Run.{Run}
use Rattle.skk_top.proofs.Disks.{stands-in-pieces, stands-refused, stands-opened, opened-so, refuses-learned}
use Rattle.skk_top.proofs.opening.open_learned.Goals as goal

-- the learned file was opened
pub returns-in-Ok-clause-opened : goal.returns-in-Ok-clause-opened
returns-in-Ok-clause-opened g c run =
    let D = g.D.Disk in
    opened-so D c.args.disk run.disk c.in-Ok.store c.args.system c.args.limit c.in-Ok.ensures.files
    c.in-Ok.ensures.limit c.in-Ok.ensures.opened c.in-Ok.ensures.advances

pub returns-in-Ok-clause-stands : goal.returns-in-Ok-clause-stands
returns-in-Ok-clause-stands g c run runs =
    let D = g.D.Disk in
    let laws = g.met.D.Disk in
    let store = c.in-Ok.store in
    stands-opened D laws.earlier laws.reads_image laws.tells_images c.files_are_recovered_in_one_way.ensures.image
    c.args.disk store.journal.disk run.disk store.state run.chronicle c.in-Ok.ensures.opened c.in-Ok.ensures.advances
    c.in-Ok.ensures.images runs

pub returns-in-Ok-clause-stands_in_pieces : goal.returns-in-Ok-clause-stands_in_pieces
returns-in-Ok-clause-stands_in_pieces g c run lists behind =
    let D = g.D.Disk in
    let laws = g.met.D.Disk in
    let store = c.in-Ok.store in
    stands-in-pieces D laws.earlier laws.reads_image laws.tells_images c.files_are_recovered_in_one_way.ensures.image
    c.args.disk store.journal.disk run.disk store.state run.chronicle c.in-Ok.ensures.opened c.in-Ok.ensures.advances
    c.in-Ok.ensures.images lists behind

-- the learned file was refused
pub returns-in-Err-clause-refused : goal.returns-in-Err-clause-refused
returns-in-Err-clause-refused g c =
    let D = g.D.Disk in
    let disk = moved_disk D c.args.disk c.in-Err.unopened.disk in
    subst (λ (r : Run g.row.D.Denot). IsErrAnd r.ended
    (RefusesLearned (moved_disk D c.args.disk r.disk))) (sym c.without_calls.ensures)
    (subst (RefusesLearned disk) (sym c.from.ensures)
    (refuses-learned c.files_are_recovered_in_one_way.ensures.image disk c.in-Err.unopened.why c.in-Err.ensures.refused
    c.in-Err.ensures.failed c.in-Err.ensures.kept c.in-Err.ensures.seen))

pub returns-in-Err-clause-ended_stands : goal.returns-in-Err-clause-ended_stands
returns-in-Err-clause-ended_stands g c =
    let D = g.D.Disk in
    stands-refused D c.args.disk c.in-Err.unopened.disk (g.met.D.Disk.earlier c.in-Err.unopened.disk) _
    c.without_calls.result c.without_calls.ensures c.in-Err.ensures.images
