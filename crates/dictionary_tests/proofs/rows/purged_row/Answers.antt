use Rattle.std.proofs.Common.{arith}
use Rattle.dictionary_tests.proofs.rows.purged_row.Goals as goal

-- a row that is purged keeps its key
pub returns : goal.returns
returns g c = grind (arith, c.purge_row.ensures, c.expect.ensures)
