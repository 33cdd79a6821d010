use Rattle.std.proofs.Common.{◌≡◌, ◌∙◌, ℕ, List, Option, true, ap, subst, sym}
use Rattle.std.specs.Option.{option_copied}
use Rattle.std.proofs.lemmas.Bool.{eqb-true}
use Rattle.std.proofs.lemmas.Result.{IfOk-weaker}
use Rattle.skk_calls.specs.declared.call.Call.{Call}
use Rattle.skk_calls.specs.declared.call.Call.TheVariants.{Learn}
use Rattle.skk_calls.specs.Dictionary.{is_call}
use Rattle.skk_calls.specs.Rows.{RowKey, Cand}
use Rattle.skk_calls.specs.States.{State, count_of, row_at}
use Rattle.learn_index.specs.declared.plan.Plan.{Plan}
use Rattle.learn_index.specs.Groups.{IsLikeFor, learns_in}
use Rattle.learn_index.specs.Plans.{IsPlanned}
use Rattle.learn_index.proofs.grouping.plan_learning.Goals as goal

-- a learning in a book, with the okurigana as it is handed on
own : (call : Call) (book number : ℕ) (key : RowKey) (okuri other : Option (List ℕ)) (cand : Cand)
    → call ≡ Learn number key okuri cand → okuri ≡ other → learns_in book call ≡ true
    → call ≡ Learn book key other cand
own call book number key okuri other cand is same learns =
    is ∙ ap (λ (n : ℕ). Learn n key okuri cand) (eqb-true number book (ap (learns_in book) (sym is) ∙ learns))
    ∙ ap (λ (o : Option (List ℕ)). Learn book key o cand) same

-- what is planned where a state is like another one for it
planned_like : (call : Call) (book count : ℕ) (key : RowKey) (okuri : Option (List ℕ)) (cand : Cand) (state : State)
    (plan : Plan) → call ≡ Learn book key okuri cand
    → ((later : State) → count_of later book ≡ count → row_at later book key ≡ row_at state book key
    → IsPlanned later (Learn book key okuri cand) plan)
    → (later : State) → IsLikeFor call count later state → IsPlanned later call plan
planned_like call book count key okuri cand state plan is planned later like =
    let same = subst (λ (one : Call). IsLikeFor one count later state) is like in
    subst (λ (one : Call). IsPlanned later one plan) (sym is) (planned later same.0 same.1)

pub returns-clause-planned : goal.returns-clause-planned
returns-clause-planned c =
    let state = c.args.index.now.state in
    let key = c.in-Learn.key in
    let okuri = option_copied c.as_ref-okuri.result in
    let cand = c.in-Learn.cand in
    let book = c.args.at.book in
    let is = own c.args.call.now book c.in-Learn.book key c.in-Learn.okuri okuri cand c.in-Learn.is
    (sym c.as_ref-okuri.ensures.value) c.requires.learn in
    IfOk-weaker c.plan_learn_at.result
    (λ (plan : Plan). (later : State) → count_of later book ≡ c.args.at.count
    → row_at later book key ≡ row_at state book key → IsPlanned later (Learn book key okuri cand) plan)
    (λ (plan : Plan). (later : State) → IsLikeFor c.args.call.now c.args.at.count later state
    → IsPlanned later c.args.call.now plan)
    (λ (plan : Plan) planned. planned_like c.args.call.now book c.args.at.count key okuri cand state plan is planned)
    c.plan_learn_at.ensures

pub returns-clause-valid : goal.returns-clause-valid
returns-clause-valid c =
    let book = c.args.at.book in
    let key = c.in-Learn.key in
    let okuri = option_copied c.as_ref-okuri.result in
    let cand = c.in-Learn.cand in
    let is = own c.args.call.now book c.in-Learn.book key c.in-Learn.okuri okuri cand c.in-Learn.is
    (sym c.as_ref-okuri.ensures.value) c.requires.learn in
    IfOk-weaker c.plan_learn_at.result
    (λ (plan : Plan). (later : State) → count_of later book ≡ c.args.at.count
    → row_at later book key ≡ row_at c.args.index.now.state book key
    → IsPlanned later (Learn book key okuri cand) plan)
    (λ (plan : Plan). is_call c.args.call.now ≡ true)
    (λ (plan : Plan) planned. ap is_call is ∙ c.learning_is_call.ensures book) c.plan_learn_at.ensures
