use Rattle.skk_journal.proofs.Parts.{takes_frame}
use Rattle.skk_journal.proofs.frames.read_frames.Goals as goal

pub loop-payload-preserved : goal.loop-payload-preserved
loop-payload-preserved c =
    let so_far = c.loop-payload.invariant in
    let more = takes_frame c.args.part.now c.in-Record.payload.now c.args.at c.loop-payload.from c.args.records.now
    c.loop-payload.records c.add_found.new.records so_far.within so_far.taken c.in-Record.ensures
    c.in_ok-add_found-in-Record.ensures in
    record { within = more.0; taken = more.1 }
