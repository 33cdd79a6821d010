use Rattle.std.proofs.Common.{sym, subst}
use Rattle.skk_calls.specs.States.{State}
use Rattle.learn_index.specs.Plans.{IsPlanned}
use Rattle.learn_index.proofs.index.Index.plan.Goals as goal

pub returns-clause-made : goal.returns-clause-made
returns-clause-made c = (
  c.args.call.now,
  c.in_ok-plan.ensures.valid,
  c.requires.fit,
  c.requires.change,
  subst (λ (state : State). IsPlanned state c.args.call.now c.in_ok-plan.plan) (sym c.in_ok-make_room_for.ensures.state)
      c.in_ok-plan.ensures.planned,
)
