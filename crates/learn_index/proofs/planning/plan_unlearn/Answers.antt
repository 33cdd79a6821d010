use Rattle.std.proofs.Common.{◌≡◌, ◌∙◌, ap, sym, subst}
use Rattle.std.proofs.lemmas.Result.{IfOk-weaker}
use Rattle.skk_calls.specs.declared.answer.Reply.TheVariants.{Restored}
use Rattle.skk_calls.specs.declared.call.Call.TheVariants.{Unlearn}
use Rattle.skk_calls.specs.Dictionary.{is_stamped}
use Rattle.skk_calls.specs.States.{count_of, row_at}
use Rattle.learn_index.specs.declared.plan.Plan.{Plan}
use Rattle.learn_index.specs.declared.plan.Plan.TheVariants.{Move}
use Rattle.learn_index.specs.Plans.{IsPlanned}
use Rattle.learn_index.proofs.Planned.{unlearn_planned}
use Rattle.learn_index.proofs.planning.plan_unlearn.Goals as goal

pub returns : goal.returns
returns c =
    let state = c.args.index.now.state in
    let learned = c.args.learned.now in
    let book = c.book-book.ensures.value in
    let key = c.key-key.ensures.value in
    let row = c.row-row.ensures ∙ ap (λ n. row_at state n c.key-key.result.now) book
    ∙ ap (row_at state learned.book) key in
    let stamped =
    ap (λ s. is_stamped s (row_at state learned.book learned.key)) (sym c.stamp.ensures.value)
    ∙ ap (is_stamped c.stamp.result) (sym row) ∙ sym c.is_stamped.ensures ∙ c.if-not-is_stamped.false in
    let count = c.count-count.ensures.value ∙ ap (count_of state) book in
    let same =
    ap (λ n. Move n c.count-count.result c.key-key.result.now c.in_ok-before.before Restored) book
    ∙ ap (λ n. Move learned.book n c.key-key.result.now c.in_ok-before.before Restored) count
    ∙ ap (λ k. Move learned.book (count_of state learned.book) k c.in_ok-before.before Restored) key
    ∙ ap (λ r. Move learned.book (count_of state learned.book) learned.key r Restored)
    (c.in_ok-before.ensures ∙ c.before-2.ensures.value) in
    let planned = unlearn_planned state learned c.key-key.ensures.valid stamped in
    IfOk-weaker c.plan_move.result
    (λ plan. plan ≡ Move c.book-book.result c.count-count.result c.key-key.result.now c.in_ok-before.before Restored)
    (IsPlanned state (Unlearn learned))
    (λ (plan : Plan) e. subst (IsPlanned state (Unlearn learned)) (sym (e ∙ same)) planned) c.plan_move.ensures
