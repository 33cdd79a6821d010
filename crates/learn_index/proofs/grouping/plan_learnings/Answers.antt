use Rattle.std.proofs.Common.{◌≡◌, ℕ, ◌+◌, true, List, [], ◌∷◌, ◌++◌, refl, subst, sym, take, arith}
use Rattle.std.specs.List.{list_all}
use Rattle.std.proofs.lemmas.List.{take_all}
use Rattle.skk_calls.specs.declared.call.Call.{Call}
use Rattle.skk_calls.specs.Dictionary.{is_call}
use Rattle.learn_index.specs.declared.plan.Plan.{Plan}
use Rattle.learn_index.specs.Groups.{ArePlanned}
use Rattle.learn_index.proofs.Grouped.{ArePlannedSoFar, learns_at, one_planned}
use Rattle.learn_index.proofs.grouping.plan_learnings.Goals as goal

pub loop-call-init : goal.loop-call-init
loop-call-init c = record {
  planned = subst (ArePlanned c.args.index.now.state []) (sym c.new-plans.ensures) tt;
  valid = refl;
  counted = c.count-count.ensures.value;
  later = omega (arith, c.count-count.ensures.value);
}

pub plan_learning-requires-clause-learn : goal.plan_learning-requires-clause-learn
plan_learning-requires-clause-learn c =
    learns_at c.args.calls.now c.loop-call.call-index c.call-item.result c.loop-call-test.true c.call-item.is
    c.args.book c.requires.learn

pub loop-call-preserved : goal.loop-call-preserved
loop-call-preserved c =
    let state = c.args.index.now.state in
    let calls = c.args.calls.now in
    let i = c.loop-call.call-index in
    let plan = c.in_ok-plan.plan in
    subst (λ (plans : List Plan). ArePlannedSoFar state c.args.book (take (i + 1) calls) plans
    c.count_left-count.result) (sym c.in_ok-push.ensures.ok)
    (subst (λ (count : ℕ). ArePlannedSoFar state c.args.book (take (i + 1) calls) (c.loop-call.plans ++ plan ∷ [])
    count) (sym c.count_left-count.ensures)
    (one_planned calls i c.call-item.result c.loop-call-test.true c.call-item.is state c.args.book c.loop-call.plans
    c.loop-call.count plan c.requires.learn c.requires.apart c.loop-call.invariant c.in_ok-plan.ensures.planned
    c.in_ok-plan.ensures.valid))

pub returns-clause-planned : goal.returns-clause-planned
returns-clause-planned c =
    let calls = c.args.calls.now in
    subst (λ (those : List Call). ArePlanned c.args.index.now.state those c.loop-call.plans)
    (take_all c.loop-call.call-index calls (omega arith)) c.loop-call.invariant.planned

pub returns-clause-valid : goal.returns-clause-valid
returns-clause-valid c =
    let calls = c.args.calls.now in
    subst (λ (those : List Call). list_all is_call those ≡ true)
    (take_all c.loop-call.call-index calls (omega arith)) c.loop-call.invariant.valid
