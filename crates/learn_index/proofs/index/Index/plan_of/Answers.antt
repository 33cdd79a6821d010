use Rattle.std.proofs.Common.{◌≡◌, ◌∙◌, ℕ, List, Option, true, ap, subst}
use Rattle.std.specs.Option.{option_copied}
use Rattle.std.proofs.lemmas.Result.{IfOk-weaker}
use Rattle.skk_calls.specs.declared.call.Call.{Call}
use Rattle.skk_calls.specs.declared.call.Call.TheVariants.{Learn, Purge, Annotate}
use Rattle.skk_calls.specs.Dictionary.{is_call}
use Rattle.learn_index.specs.declared.plan.Plan.{Plan}
use Rattle.learn_index.specs.Plans.{IsPlanned}
use Rattle.learn_index.proofs.index.Index.plan_of.Goals as goal

pub returns-in-Learn-clause-valid : goal.returns-in-Learn-clause-valid
returns-in-Learn-clause-valid c =
    let call : Call = Learn c.in-Learn.book c.in-Learn.key (option_copied c.as_ref-okuri.result) c.in-Learn.cand in
    IfOk-weaker c.plan_learn.result (IsPlanned c.args.self.now.state call) (λ (plan : Plan). is_call c.args.call.now
    ≡ true)
    (λ (plan : Plan) planned. ap is_call c.in-Learn.is
    ∙ subst (λ (okuri : Option (List ℕ)). is_call (Learn c.in-Learn.book c.in-Learn.key okuri c.in-Learn.cand) ≡ true)
    c.as_ref-okuri.ensures.value (c.learning_is_call.ensures c.in-Learn.book)) c.plan_learn.ensures

pub returns-in-Purge-clause-valid : goal.returns-in-Purge-clause-valid
returns-in-Purge-clause-valid c =
    let call : Call = Purge c.in-Purge.book c.in-Purge.key c.in-Purge.word in
    IfOk-weaker c.plan_purge.result (IsPlanned c.args.self.now.state call) (λ (plan : Plan). is_call c.args.call.now
    ≡ true)
    (λ (plan : Plan) planned. ap is_call c.in-Purge.is ∙ c.purge_is_call.ensures c.in-Purge.book c.in-Purge.word)
    c.plan_purge.ensures

pub returns-in-Annotate-clause-valid : goal.returns-in-Annotate-clause-valid
returns-in-Annotate-clause-valid c =
    let call : Call = Annotate c.in-Annotate.book c.in-Annotate.key c.in-Annotate.cand in
    IfOk-weaker c.plan_annotate.result (IsPlanned c.args.self.now.state call) (λ (plan : Plan). is_call c.args.call.now
    ≡ true)
    (λ (plan : Plan) planned. ap is_call c.in-Annotate.is ∙ c.annotation_is_call.ensures c.in-Annotate.book)
    c.plan_annotate.ensures

pub returns-in-Share-clause-valid : goal.returns-in-Share-clause-valid
returns-in-Share-clause-valid c = ap is_call c.in-Share.is ∙ c.share_is_call.ensures c.in-Share.who
