use Rattle.skk_outside.specs.Moved.{moved_sink}
use Rattle.skk_top.proofs.Runs.{Keeps-self}
use Rattle.skk_top.proofs.caller_each.run_by_each.Goals as goal

-- a script that was begun
pub returns-in-Ok-clause-stands : goal.returns-in-Ok-clause-stands
returns-in-Ok-clause-stands g c = c.in-Ok.ensures.stands c.type_by_each.result c.type_by_each.ensures.runs

-- and one that was not
pub returns-in-Err-clause-leaves : goal.returns-in-Err-clause-leaves
returns-in-Err-clause-leaves g c =
    c.in-Err.ensures.ends (moved_sink g.O.Outside c.args.out.now c.args.out.now) (Keeps-self _)
