use Rattle.std.proofs.Common.{arith}
use Rattle.std.proofs.lemmas.Bool.Decides.{nat_tests}
use Rattle.batch_store.proofs.WrittenGroups.{piece_none, unwritten}
use Rattle.batch_store.proofs.writing.write_piece.Goals as goal

-- none of the calls changes anything
pub returns-then-is_empty-clause-commits : goal.returns-then-is_empty-clause-commits
returns-then-is_empty-clause-commits g c files calls piece =
    let state = c.args.index.now.state in
    let journal = c.args.journal.now in
    unwritten g.D.Disk journal state files c.args.limit calls
    (piece_none state calls c.args.records.now (grind (arith, nat_tests, c.is_empty.ensures, c.if-is_empty.true))
    piece) (c.kept_states_are_recovered.ensures journal state)
