use Rattle.std.proofs.Common.{[], ap, ◌∙◌, subst, sym}
use Rattle.skk_calls.specs.Dictionary.{may_reply}
use Rattle.skk_calls.specs.States.{State}
use Rattle.learn_index.specs.Plans.{IsPlanned}
use Rattle.learn_index.specs.ReplyLaws.{may-change}
use Rattle.learn_index.proofs.index.Index.change.Goals as goal

pub returns-clause-may : goal.returns-clause-may
returns-clause-may c =
    let planned = subst (λ (state : State). IsPlanned state c.args.call.now c.in_ok-plan.plan)
    (sym c.plan.ensures.state) c.in_ok-plan.ensures.planned in
    ap (may_reply c.args.call.now) (c.apply.ensures.reply [] c.args.call.now c.requires.change planned)
    ∙ may-change [] _ c.args.call.now c.requires.change
