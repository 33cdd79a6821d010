use Rattle.std.proofs.Common.{◌≡◌, [], ℕ, List, drop, subst, arith}
use Rattle.skk_disk.specs.RunLaws.{reads_on}
use Rattle.skk_disk.specs.Image.{Image, part}
use Rattle.skk_disk.specs.declared.which.Which.{Which}
use Rattle.skk_journal.specs.declared.found.FoundRecord.{FoundRecord}
use Rattle.skk_journal.specs.declared.frames.Stop.{Stop}
use Rattle.skk_journal.specs.Reading.{StopsAt, StopsWithin}
use Rattle.skk_journal.proofs.Parts.{takes_more, end_at, places_at, read_at, bad_at, bad_outside}
use Rattle.skk_journal.proofs.records.read_records.Goals as goal

-- where reading stopped, seen by the file at the start and by the kind of stop
stop_is : (file : Which) (tells : Type 0) (now start : Image) (at : ℕ) (old new : List FoundRecord) (stop kind : Stop)
    → now ≡ start
    → stop ≡ kind → StopsAt tells (drop at (part file now)) at old new stop → StopsAt tells (drop at
    (part file start)) at old new kind
stop_is file tells now start at old new stop kind same is stops =
    subst (StopsAt tells (drop at (part file start)) at old new) is
    (subst (λ (s : Image). StopsAt tells (drop at (part file s)) at old new stop) same stops)

pub loop-at-preserved : goal.loop-at-preserved
loop-at-preserved g c =
    let D = g.D.Disk in
    let so_far = c.loop-at.invariant in
    let more = c.in_ok-from.ensures in
    let at = c.loop-at.at in
    let from = c.in-Else.from in
    let new = c.read_part.new.records in
    let read = stop_is c.args.file _ _ _ _ _ _ _ _ so_far.reads.seen c.in-Else.is more.next in
    let within = subst (StopsWithin 131077) c.in-Else.is more.within in
    record {
      behind_head = omega (arith, so_far.behind_head);
      low = omega (arith, c.loop-at-test.true, c.requires.len, within);
      room = omega (arith, so_far.room);
      taken = takes_more D.tells (part c.args.file
          (D.seen c.args.disk.now)) at from [] c.loop-at.records new so_far.behind_head
          so_far.taken read.0;
      reads = reads_on g.D.Disk _ _ _ so_far.reads more.only_reads;
    }

pub returns-in-End-clause-records : goal.returns-in-End-clause-records
returns-in-End-clause-records g c =
    let so_far = c.loop-at.invariant in
    read_at g.D.Disk.tells (part c.args.file
    (g.D.Disk.seen c.args.disk.now)) c.loop-at.at c.in-End.from c.loop-at.records
    c.read_part.new.records so_far.behind_head so_far.taken
    (stop_is c.args.file _ _ _ _ _ _ _ _ so_far.reads.seen c.in-End.is c.in_ok-from.ensures.next)

pub returns-in-End-clause-end : goal.returns-in-End-clause-end
returns-in-End-clause-end g c =
    let so_far = c.loop-at.invariant in
    end_at g.D.Disk.tells (part c.args.file
    (g.D.Disk.seen c.args.disk.now)) c.loop-at.at c.in-End.from c.loop-at.records
    c.read_part.new.records so_far.behind_head so_far.taken
    (stop_is c.args.file _ _ _ _ _ _ _ _ so_far.reads.seen c.in-End.is c.in_ok-from.ensures.next)

pub returns-in-End-clause-places : goal.returns-in-End-clause-places
returns-in-End-clause-places g c =
    let so_far = c.loop-at.invariant in
    places_at g.D.Disk.tells (part c.args.file
    (g.D.Disk.seen c.args.disk.now)) c.loop-at.at c.in-End.from c.loop-at.records
    c.read_part.new.records so_far.behind_head so_far.taken
    (stop_is c.args.file _ _ _ _ _ _ _ _ so_far.reads.seen c.in-End.is c.in_ok-from.ensures.next)

pub returns-then-from-eq0-clause-bad : goal.returns-then-from-eq0-clause-bad
returns-then-from-eq0-clause-bad g c =
    let so_far = c.loop-at.invariant in
    bad_at g.D.Disk.tells (part c.args.file
    (g.D.Disk.seen c.args.disk.now)) c.loop-at.at c.in-Else.from c.loop-at.records
    c.read_part.new.records so_far.behind_head so_far.taken
    (stop_is c.args.file _ _ _ _ _ _ _ _ so_far.reads.seen c.in-Else.is c.in_ok-from.ensures.next) c.if-from-eq0.true

pub returns-clause-bad : goal.returns-clause-bad
returns-clause-bad g c tells =
    let so_far = c.loop-at.invariant in
    bad_outside g.D.Disk.tells (part c.args.file
    (g.D.Disk.seen c.args.disk.now)) c.loop-at.at c.loop-at.records so_far.behind_head
    so_far.taken (omega (arith, c.requires.told tells, c.loop-at-test.false)) tells
