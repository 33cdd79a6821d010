use Rattle.learned_store.proofs.ReadRows.{lines_are_read, plain_read}
use Rattle.learned_store.proofs.payload.row_of.Goals as goal

pub returns-in-Some : goal.returns-in-Some
returns-in-Some c =
    let plain = rw c.in-Some.is at c.in_ok-row.ensures in
    plain_read (lines_are_read c.good_rows_are_read_again.ensures c.lines_spell_one_row.ensures.read) c.args.part
    c.args.line.now c.args.stamp c.in-Some.row plain.0 plain.1
