use Rattle.std.proofs.Common.{◌∙◌, inr, subst, ℕ, List}
use Rattle.skk_calls.specs.Rows.{Row}
use Rattle.learned_store.specs.Stores.{opening_now}
use Rattle.command_line.specs.Command.{limit_of}
use Rattle.skk_top.specs.Disks.{moved_disk, IsOpening}
use Rattle.skk_top.proofs.share_command.run_share.Goals as goal

-- a list that was given over the learned file
pub returns-in-Ok-open_learned-clause-leaves : goal.returns-in-Ok-open_learned-clause-leaves
returns-in-Ok-open_learned-clause-leaves g c =
    let D = g.D.Disk in
    let opening = opening_now D c.in-Ok-open_learned.store in
    let disk = moved_disk D c.args.disk c.share_by_one.result.disk in
    let opened = subst (λ (most : ℕ). IsOpening disk c.in-Ok.system most opening) c.limit.ensures
    (c.in-Ok-open_learned.ensures.opened c.share_by_one.result) in
    inr (record {
      opening = opening;
      opened = subst (λ (files : List (List Row)). IsOpening disk files (limit_of c.args.options.now.limit) opening)
          (c.in-Ok.ensures ∙ c.new.ensures) opened;
      shared = c.share_by_one.ensures.leaves;
    })

pub returns-in-Ok-open_learned-clause-stands : goal.returns-in-Ok-open_learned-clause-stands
returns-in-Ok-open_learned-clause-stands g c =
    c.in-Ok-open_learned.ensures.stands c.share_by_one.result c.share_by_one.ensures.runs
