use Rattle.std.proofs.Common.{refl, sym}
use Rattle.std.specs.Option.{option_copied}
use Rattle.std.proofs.lemmas.Result.{IfOk-weaker}
use Rattle.skk_calls.specs.declared.call.Call.TheVariants.{Learn}
use Rattle.learn_index.specs.declared.plan.Plan.{Plan}
use Rattle.learn_index.specs.Plans.{IsPlanned}
use Rattle.learn_index.proofs.planning.plan_learn.Goals as goal

pub returns : goal.returns
returns c =
    let state = c.args.index.now.state in
    IfOk-weaker c.plan_learn_at.result _
    (IsPlanned state (Learn c.args.book c.args.key.now (option_copied c.args.okuri) c.args.cand.now))
    (λ (plan : Plan) planned. planned state (sym c.count-count.ensures.value) refl) c.plan_learn_at.ensures
