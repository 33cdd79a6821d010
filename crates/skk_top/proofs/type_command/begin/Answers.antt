use Rattle.std.proofs.Common.{inr}
use Rattle.skk_top.proofs.Begun.{if_ok}
use Rattle.skk_top.proofs.type_command.begin.Goals as goal

-- the files that the options name were read
pub returns-in-Ok-clause-leaves : goal.returns-in-Ok-clause-leaves
returns-in-Ok-clause-leaves g c =
    if_ok c.begin_learned.result c.begin_learned.ensures.leaves (λ begun leaves run out typed.
    inr (record {
      rules = c.in-Ok.table.rules;
      books = c.in-Ok.table.system;
      are_rules = c.in-Ok.ensures.rules;
      are_rows = c.in-Ok.ensures.rows;
      typed = rw c.limit.ensures at (leaves run out typed);
    }))
