use Rattle.std.proofs.Common.{ℕ, inr, subst}
use Rattle.learned_store.specs.Stores.{opening_now}
use Rattle.skk_top.specs.Disks.{moved_disk, IsOpening}
use Rattle.skk_top.proofs.serve_command.serve_learned.Goals as goal

-- the learned file was opened
pub returns-in-Ok-clause-leaves : goal.returns-in-Ok-clause-leaves
returns-in-Ok-clause-leaves g c =
    let D = g.D.Disk in
    let opening = opening_now D c.in-Ok.store in
    let run = c.serve_store.result in
    inr (record {
      opening = opening;
      opened = subst (λ (n : ℕ). IsOpening (moved_disk D c.args.disk
          run.disk) c.args.table.system n opening) c.limit.ensures (c.in-Ok.ensures.opened run);
      served = c.serve_store.ensures.leaves;
    })

pub returns-in-Ok-clause-stands : goal.returns-in-Ok-clause-stands
returns-in-Ok-clause-stands g c = c.in-Ok.ensures.stands c.serve_store.result c.serve_store.ensures.runs
