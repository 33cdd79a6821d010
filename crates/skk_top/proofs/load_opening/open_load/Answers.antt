use Rattle.std.proofs.Common.{◌∙◌, sym, subst, refl}
use Rattle.skk_top.specs.Disks.{moved_disk, RefusesLearned}
use Rattle.run_endings.specs.Finishes.{EndsUnbegun}
use Rattle.skk_top.specs.LoadCommand.{load_files}
use Rattle.run_endings.specs.declared.finish.Run.{Run}
use Rattle.skk_top.proofs.Disks.{stands-quiet, stands-refused, stands-opened, opened-so, refuses-learned}
use Rattle.skk_top.proofs.load_opening.open_load.Goals as goal

-- there was no memory for the dictionary
pub returns-in_default-clause-ends : goal.returns-in_default-clause-ends
returns-in_default-clause-ends g c out keeps =
    let D = g.D.Disk in
    subst (λ (r : Run g.row.D.Denot). EndsUnbegun (RefusesLearned (moved_disk D c.args.disk r.disk)) r out)
    (sym c.without_calls.ensures) (record { cause = tt; uncalled = refl; unwritten = keeps })

pub returns-in_default-clause-ended_stands : goal.returns-in_default-clause-ended_stands
returns-in_default-clause-ended_stands g c =
    let D = g.D.Disk in
    stands-quiet D c.args.disk (g.met.D.Disk.earlier c.args.disk) _ c.without_calls.result c.without_calls.ensures

-- the learned file was opened
pub returns-in-Ok-open-clause-opened : goal.returns-in-Ok-open-clause-opened
returns-in-Ok-open-clause-opened g c run =
    let D = g.D.Disk in
    let store = c.in-Ok-open.store in
    opened-so D c.args.disk run.disk store load_files 268435456 (c.in-Ok-open.ensures.files ∙ c.in-Ok.ensures)
    c.in-Ok-open.ensures.limit c.in-Ok-open.ensures.opened c.in-Ok-open.ensures.advances

pub returns-in-Ok-open-clause-stands : goal.returns-in-Ok-open-clause-stands
returns-in-Ok-open-clause-stands g c run runs =
    let D = g.D.Disk in
    let laws = g.met.D.Disk in
    let store = c.in-Ok-open.store in
    stands-opened D laws.earlier laws.reads_image laws.tells_images c.files_are_recovered_in_one_way.ensures.image
    c.args.disk store.journal.disk run.disk store.state run.chronicle c.in-Ok-open.ensures.opened
    c.in-Ok-open.ensures.advances c.in-Ok-open.ensures.images runs

-- it was refused
pub returns-in-Err-clause-ends : goal.returns-in-Err-clause-ends
returns-in-Err-clause-ends g c out keeps =
    let D = g.D.Disk in
    let disk = moved_disk D c.args.disk c.in-Err.unopened.disk in
    subst (λ (r : Run g.row.D.Denot). EndsUnbegun (RefusesLearned (moved_disk D c.args.disk r.disk)) r out)
    (sym c.without_calls-in-Err.ensures) (record {
      cause = subst (RefusesLearned disk) (sym c.from.ensures)
          (refuses-learned c.files_are_recovered_in_one_way.ensures.image disk c.in-Err.unopened.why
          c.in-Err.ensures.refused c.in-Err.ensures.failed c.in-Err.ensures.kept c.in-Err.ensures.seen);
      uncalled = refl;
      unwritten = keeps;
    })

pub returns-in-Err-clause-ended_stands : goal.returns-in-Err-clause-ended_stands
returns-in-Err-clause-ended_stands g c =
    let D = g.D.Disk in
    stands-refused D c.args.disk c.in-Err.unopened.disk (g.met.D.Disk.earlier c.in-Err.unopened.disk) _
    c.without_calls-in-Err.result c.without_calls-in-Err.ensures c.in-Err.ensures.images
