use Rattle.dict_format.specs.LeftLines.{entries_at}
use Rattle.dict_format.proofs.FileEntries.{line-listed}
use Rattle.dict_format.proofs.file_reading.read_text.Goals as goal

pub loop-line-preserved : goal.loop-line-preserved
loop-line-preserved c =
    line-listed c.args.text.now c.loop-line.lines c.next_line.new.self (entries_at c.in-Some.line) c.loop-line.listing
    c.in_ok-listing.listing c.loop-line.invariant c.in-Some.ensures.line c.in_ok-listing.ensures
