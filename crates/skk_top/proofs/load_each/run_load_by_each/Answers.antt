use Rattle.std.proofs.Common.{inl, inr}
use Rattle.skk_outside.specs.Moved.{moved_sink}
use Rattle.learned_store.specs.Stores.{opening_now}
use Rattle.skk_top.proofs.Runs.{Keeps-self}
use Rattle.skk_top.proofs.load_each.run_load_by_each.Goals as goal

-- lines that were played over the learned file
pub returns-in-Ok-clause-leaves : goal.returns-in-Ok-clause-leaves
returns-in-Ok-clause-leaves g c =
    inr (record {
      opening = opening_now g.D.Disk c.in-Ok.store;
      opened = c.in-Ok.ensures.opened c.load_by_each.result;
      played = c.load_by_each.ensures.leaves;
    })

pub returns-in-Ok-clause-stands : goal.returns-in-Ok-clause-stands
returns-in-Ok-clause-stands g c = c.in-Ok.ensures.stands c.load_by_each.result c.load_by_each.ensures.runs

-- a learned file that was refused
pub returns-in-Err-clause-leaves : goal.returns-in-Err-clause-leaves
returns-in-Err-clause-leaves g c =
    let out = moved_sink g.O.Outside c.args.out.now c.args.out.now in
    inl (c.in-Err.ensures.ends out (Keeps-self _))
