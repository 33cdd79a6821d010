use Rattle.std.proofs.Common.{ℕ, List, length, inl, inr, sym, ap, subst, arith, refl}
use Rattle.skk_disk.specs.StepLaws.{at_end}
use Rattle.skk_journal.specs.declared.live.Live.{Live}
use Rattle.skk_journal.specs.declared.live.Idle.TheVariants.{Loose}
use Rattle.skk_journal.specs.Contents.{Contents}
use Rattle.skk_journal.specs.Records.{IsVersion}
use Rattle.skk_journal.specs.Journal.{Holds}
use Rattle.skk_journal.proofs.Results.{on_err}
use Rattle.skk_journal.proofs.JournalSteps.{filling_keeps, filling_knows, filling_ends, ready_filled}
use Rattle.skk_journal.proofs.JournalSteps.{turning_keeps, turned_over, turning_over}
use Rattle.skk_journal.proofs.journal.Journal.compact.Goals as goal

-- what the other file is filled with
abbrev filled : ℕ → List (List ℕ) → Contents
filled newest compacted = record { version = newest; records = compacted }

-- the newest version is right where there is one
newest_right : (newest version : ℕ) → IsVersion newest version → IsVersion newest newest
newest_right newest version right = (omega (arith, right.0, right.1), omega arith)

pub returns-in_err-make_ready-clause-err : goal.returns-in_err-make_ready-clause-err
returns-in_err-make_ready-clause-err g c = rw (← c.self.view_is) (on_err c.from_residual.result
    (λ before compacted sized is start. inl (record {
      calm = start.calm;
      version = start.version;
      end = start.end;
      images = filling_knows _ c.self.inside.live before (filled c.self.inside.newest compacted) _
          c.other_file-file.ensures _ _ _ _ c.make_ready.ensures.known start.images;
    })))

pub returns-in_err-make_ready-clause-images : goal.returns-in_err-make_ready-clause-images
returns-in_err-make_ready-clause-images g c = rw (← c.self.view_is) (λ before compacted sized is start image left.
    inl (filling_keeps _ c.self.inside.live before (filled c.self.inside.newest compacted) _ c.other_file-file.ensures _
    _ _ c.make_ready.ensures.images start.images image left))

pub returns-in_err-write_first-clause-err : goal.returns-in_err-write_first-clause-err
returns-in_err-write_first-clause-err g c = rw (← c.self.view_is) (on_err c.from_residual-in_err-write_first.result
    (λ before compacted sized is start.
    let inside = c.self.inside in
    let others = filled inside.newest compacted in
    let right = newest_right inside.newest inside.live.version c.self.invariant.2 in
    let idle = c.other_file-file.ensures in
    let ready = filling_ends _ inside.live before others _ idle _ _ _ c.args.records.now is
    c.in_ok-make_ready.ensures.ok start.images in
    inr (record {
      doubt = refl;
      version = start.version;
      end = start.end;
      images = turning_keeps _ inside.live before others _ idle _ _
          (at_end _ _ _ _ _ c.write_first.ensures.advances.past (g.met.D.Disk.earlier c.write_first.new.disk) _
          c.write_first.ensures.images)
          (ready_filled _ inside.live before others _ right c.make_ready.ensures.small sized ready);
    })))

pub returns-in_err-write_first-clause-images : goal.returns-in_err-write_first-clause-images
returns-in_err-write_first-clause-images g c = rw (← c.self.view_is) (λ before compacted sized is start.
    let inside = c.self.inside in
    turning_over _ _ _ _ _ _ _ c.in_ok-make_ready.ensures.advances.past c.write_first.ensures.advances.past inside.live
    _ before
    start.images (filled inside.newest compacted) _ c.other_file-file.ensures
    (newest_right inside.newest inside.live.version c.self.invariant.2) c.make_ready.ensures.small sized
    c.args.records.now is c.in_ok-make_ready.ensures.images c.in_ok-make_ready.ensures.ok
    c.write_first.ensures.images)

pub returns-clause-images : goal.returns-clause-images
returns-clause-images g c = rw (← c.self.view_is) (λ before compacted sized is start.
    let inside = c.self.inside in
    turning_over _ _ _ _ _ _ _ c.in_ok-make_ready.ensures.advances.past c.write_first.ensures.advances.past inside.live
    _ before
    start.images (filled inside.newest compacted) _ c.other_file-file.ensures
    (newest_right inside.newest inside.live.version c.self.invariant.2) c.make_ready.ensures.small sized
    c.args.records.now is c.in_ok-make_ready.ensures.images c.in_ok-make_ready.ensures.ok
    c.write_first.ensures.images)

pub returns-clause-ok : goal.returns-clause-ok
returns-clause-ok g c = rw (← c.self.view_is) (λ before compacted sized is start.
    let newest = c.self.inside.newest in
    let live = c.self.inside.live in
    let others = filled newest compacted in
    let right = newest_right newest live.version c.self.invariant.2 in
    let idle = c.other_file-file.ensures in
    let ready = filling_ends newest live before others _ idle _ _ _ c.args.records.now is c.in_ok-make_ready.ensures.ok
    start.images in
    record {
      calm = refl;
      version = refl;
      end = omega (arith, ap length is);
      images = λ image left.
          subst (λ (l : Live). Holds newest l Loose others image)
          (λ i. record {
            file = sym idle i;
            version = newest;
            generation = sym c.generation_beside-generation.ensures.next i;
          })
          (turned_over newest live before others _ idle _ _ right c.make_ready.ensures.small sized
          c.in_ok-write_first.ensures.ok ready image left);
    })
