use Rattle.std.proofs.Common.{◌≡◌, ◌∙◌, sym, ap, subst, refl, inl, inr, arith, []}
use Rattle.learned_store.specs.Stores.{opening_now}
use Rattle.skk_outside.specs.Moved.{moved_sink}
use Rattle.caller_work.specs.Disks.{disk_now}
use Rattle.skk_top.specs.Disks.{moved_disk, RefusesLearned, StandsSince}
use Rattle.skk_top.specs.DumpCommand.{LeavesDumped}
use Rattle.run_endings.specs.declared.finish.Run.{Run}
use Rattle.caller_work.specs.DiskLaws.{runs-nothing}
use Rattle.skk_top.proofs.Disks.{stands-quiet, stands-refused, stands-opened, opened-so, refuses-learned}
use Rattle.skk_top.proofs.Runs.{Keeps-self}
use Rattle.skk_top.proofs.dump_command.run_dump.Goals as goal

pub returns-in_default-clause-stands : goal.returns-in_default-clause-stands
returns-in_default-clause-stands g c =
    let D = g.D.Disk in
    stands-quiet D c.args.disk (g.met.D.Disk.earlier c.args.disk) _ c.without_calls.result c.without_calls.ensures

pub overflow_cast-options : goal.overflow_cast-options
overflow_cast-options g c = omega (arith, c.requires)

pub returns-in-Ok-open-clause-leaves : goal.returns-in-Ok-open-clause-leaves
returns-in-Ok-open-clause-leaves g c =
    let D = g.D.Disk in
    let store = c.in-Ok-open.store in
    let out = moved_sink g.O.Outside c.args.out.now c.print_book-ended.new.out in
    let files : store.files ≡ [] = c.in-Ok-open.ensures.files ∙ c.in-Ok.ensures ∙ c.new.ensures in
    subst (λ (r : Run g.row.D.Denot). LeavesDumped c.args.options.now r out
    (moved_disk D c.args.disk r.disk)) (sym c.without_calls-in-Ok-open.ensures) (inr (record {
      opening = opening_now D store;
      opened = opened-so D c.args.disk c.close.result store [] _
          files c.in-Ok-open.ensures.limit c.in-Ok-open.ensures.opened c.in-Ok-open.ensures.advances;
      printed = c.print_book-ended.ensures;
    }))

pub returns-in-Ok-open-clause-stands : goal.returns-in-Ok-open-clause-stands
returns-in-Ok-open-clause-stands g c =
    let D = g.D.Disk in
    let laws = g.met.D.Disk in
    let store = c.in-Ok-open.store in
    subst (λ (r : Run g.row.D.Denot).
    StandsSince r.chronicle (moved_disk D c.args.disk r.disk)) (sym (c.without_calls-in-Ok-open.ensures
    ∙ ap (λ (d : g.row.D.Denot). record { ended = c.print_book-ended.result; chronicle = []; disk = d })
    c.close.ensures)) (stands-opened D laws.earlier laws.reads_image laws.tells_images
    c.files_are_recovered_in_one_way.ensures.image c.args.disk store.journal.disk store.journal.disk store.state []
    c.in-Ok-open.ensures.opened c.in-Ok-open.ensures.advances c.in-Ok-open.ensures.images
    (runs-nothing store.state (disk_now D store.journal.disk)))

pub returns-in-Err-clause-leaves : goal.returns-in-Err-clause-leaves
returns-in-Err-clause-leaves g c =
    let D = g.D.Disk in
    let out = moved_sink g.O.Outside c.args.out.now c.args.out.now in
    subst (λ (r : Run g.row.D.Denot). LeavesDumped c.args.options.now r out
    (moved_disk D c.args.disk r.disk)) (sym (c.without_calls-in-Err.ensures)) (inl (record {
      cause = subst (RefusesLearned (moved_disk D c.args.disk
          c.in-Err.unopened.disk)) (sym c.from.ensures)
          (refuses-learned c.files_are_recovered_in_one_way.ensures.image
          (moved_disk D c.args.disk c.in-Err.unopened.disk) c.in-Err.unopened.why c.in-Err.ensures.refused
          c.in-Err.ensures.failed c.in-Err.ensures.kept c.in-Err.ensures.seen);
      uncalled = refl;
      unwritten = Keeps-self _;
    }))

pub returns-in-Err-clause-stands : goal.returns-in-Err-clause-stands
returns-in-Err-clause-stands g c =
    let D = g.D.Disk in
    stands-refused D c.args.disk c.in-Err.unopened.disk (g.met.D.Disk.earlier c.in-Err.unopened.disk) _
    c.without_calls-in-Err.result c.without_calls-in-Err.ensures c.in-Err.ensures.images
