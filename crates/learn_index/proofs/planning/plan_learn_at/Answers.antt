use Rattle.std.proofs.Common.{◌≡◌, ◌∙◌, Option, ap, sym, subst, arith}
use Rattle.std.specs.Option.{IfSome, option_copied}
use Rattle.std.proofs.lemmas.Result.{IfOk-weaker}
use Rattle.skk_calls.specs.declared.answer.Reply.TheVariants.{Learned}
use Rattle.skk_calls.specs.declared.call.Call.TheVariants.{Learn}
use Rattle.skk_calls.specs.Learning.{learnt}
use Rattle.skk_calls.specs.Rows.{Row}
use Rattle.skk_calls.specs.States.{State, count_of, row_at, rows_of}
use Rattle.learn_index.specs.declared.plan.Plan.{Plan}
use Rattle.learn_index.specs.Plans.{IsPlanned, row_plan}
use Rattle.learn_index.proofs.Planned.{before_keyed, learn_planned}
use Rattle.learn_index.proofs.planning.plan_learn_at.Goals as goal

pub learn_row-requires : goal.learn_row-requires
learn_row-requires c =
    let key = c.args.key.now in
    subst (λ found. IfSome found (λ before. before.key ≡ key)) (sym c.row.ensures)
    (before_keyed key (rows_of c.args.index.now.state c.args.at.book))

pub returns : goal.returns
returns c =
    let book = c.args.at.book in
    let key = c.args.key.now in
    let okuri = option_copied c.args.okuri in
    let cand = c.args.cand.now in
    let stamp = c.in-Some.stamp in
    let row = c.in_ok-row.row in
    let reply = c.in_ok-reply.reply in
    IfOk-weaker c.plan_row.result (λ plan. plan ≡ row_plan book stamp key row reply)
    (λ plan. (later : State) → count_of later book ≡ c.args.at.count
    → row_at later book key ≡ row_at c.args.index.now.state book key
    → IsPlanned later (Learn book key okuri cand) plan)
    (λ (plan : Plan) e later counted same. subst (IsPlanned later (Learn book key okuri cand)) (sym e)
    (learn_planned later book key okuri cand row reply stamp
    (omega (arith, c.in-Some.ensures, counted)) (omega (arith, c.in-Some.ensures))
    (c.in_ok-row.ensures
    ∙ ap (λ before. learnt before key okuri cand stamp) (c.row.ensures ∙ sym same))
    (c.in_ok-reply.ensures ∙ ap (λ (before : Option Row). Learned (record {
      book = book;
      key = key;
      stamp = stamp;
      before = before;
    })) (sym same))))
    c.plan_row.ensures
