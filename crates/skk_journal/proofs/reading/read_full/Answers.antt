use Rattle.std.proofs.Common.{◌≡◌, ◌+◌, ◌++◌, take, drop, subst}
use Rattle.skk_disk.specs.RunLaws.{reads_on}
use Rattle.skk_disk.specs.Image.{Image, part}
use Rattle.skk_journal.proofs.ReadingOn.{read_so_far}
use Rattle.skk_journal.proofs.reading.read_full.Goals as goal

pub loop-filled-preserved : goal.loop-filled-preserved
loop-filled-preserved g c =
    let so_far = c.loop-filled.invariant in
    let more = c.in_ok-n.ensures in
    let filled = c.loop-filled.filled in
    let file = c.args.file in
    record {
      within = more.bound;
      bytes = λ tells.
          read_so_far c.args.at filled c.in_ok-n.n c.loop-filled.into c.read_more.new.into
          (part file (g.D.Disk.seen c.args.disk.now)) (so_far.bytes tells)
          (subst (λ (s : Image). take (filled + c.in_ok-n.n) c.read_more.new.into
          ≡ take filled c.loop-filled.into ++ take c.in_ok-n.n (drop (c.args.at + filled) (part file s)))
          so_far.reads.seen (more.bytes tells));
      reads = reads_on g.D.Disk _ _ _ so_far.reads more.only_reads;
    }
