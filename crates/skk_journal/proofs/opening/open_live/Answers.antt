use Rattle.std.proofs.Common.{drop, sym, subst}
use Rattle.std.specs.Prelude.{Some}
use Rattle.skk_disk.specs.Image.{Image, part, other}
use Rattle.skk_journal.specs.declared.live.Idle.{Idle}
use Rattle.skk_journal.specs.ChoiceLaws.{live_marked, idle_is_known}
use Rattle.skk_journal.specs.Found.{payloads}
use Rattle.skk_journal.specs.Idle.{IsKnown}
use Rattle.skk_journal.specs.Opening.{contents_of}
use Rattle.skk_journal.specs.Reading.{AreRead, BreakOff}
use Rattle.skk_journal.proofs.Opened.{live_opened}
use Rattle.skk_journal.proofs.WholeFiles.{recorded, refused}
use Rattle.skk_journal.proofs.opening.open_live.Goals as goal

pub returns-in-Err-clause-refused : goal.returns-in-Err-clause-refused
returns-in-Err-clause-refused g c newest tells is =
    let image = g.D.Disk.seen c.args.disk.now in
    let live = c.args.live in
    let fault = c.in-Err.fault in
    let broken = subst (λ (s : Image). BreakOff (drop 17 (part live.file s)) fault) c.len.ensures.seen
    (c.in-Err.ensures.bad tells) in
    refused newest image live fault _ is broken c.refusal.ensures

pub returns-in-Ok-clause-opened : goal.returns-in-Ok-clause-opened
returns-in-Ok-clause-opened g c newest tells is =
    let image = g.D.Disk.seen c.args.disk.now in
    let live = c.args.live in
    let records = c.in-Ok.read.records in
    let read = subst (λ (s : Image). AreRead (drop 17 (part live.file s)) records) c.len.ensures.seen
    (c.in-Ok.ensures.records tells) in
    live_opened newest image live (contents_of live (payloads records)) is
    (recorded newest live (part live.file image) records (live_marked newest image live is) read)

pub returns-in-Ok-clause-holds : goal.returns-in-Ok-clause-holds
returns-in-Ok-clause-holds g c newest tells is known =
    let image = g.D.Disk.seen c.args.disk.now in
    let live = c.args.live in
    let records = c.in-Ok.read.records in
    let read = subst (λ (s : Image). AreRead (drop 17 (part live.file s)) records) c.len.ensures.seen
    (c.in-Ok.ensures.records tells) in
    record {
      this = recorded newest live (part live.file image) records (live_marked newest image live is) read;
      that =
          subst (λ (idle : Idle). IsKnown newest (Some live) idle (part (other live.file) image)) (sym known)
          (idle_is_known newest image live is);
    }
