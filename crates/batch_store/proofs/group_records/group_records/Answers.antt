use Rattle.batch_store.specs.Groups.{PutsCharacters, PutsHeld}
use Rattle.batch_store.proofs.PushedPlans.{more_put, pushed}
use Rattle.batch_store.proofs.group_records.group_records.Goals as goal

pub loop-plan-preserved : goal.loop-plan-preserved
loop-plan-preserved c =
    let plans = c.args.plans.now in
    let i = c.loop-plan.plan-index in
    let plan = c.plan-item.result in
    record {
      written =
          pushed plans i plan c.loop-plan.records.items c.push_plan.new.records.items c.loop-plan-test.true
          c.plan-item.is c.loop-plan.invariant.written c.in_ok-push_plan.ensures.records;
      characters =
          more_put PutsCharacters plans i plan c.loop-plan-test.true c.plan-item.is c.loop-plan.invariant.characters
          c.in_ok-push_plan.ensures.characters;
      held =
          more_put PutsHeld plans i plan c.loop-plan-test.true c.plan-item.is c.loop-plan.invariant.held
          c.in_ok-push_plan.ensures.held;
    }
