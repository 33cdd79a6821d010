use Rattle.std.proofs.Common.{◌≡◌, ◌∙◌, cond, None, Some, ap, sym, subst, arith}
use Rattle.std.specs.Option.{IfSome}
use Rattle.std.proofs.lemmas.Result.{IfOk-weaker}
use Rattle.skk_calls.specs.declared.answer.Reply.TheVariants.{Purged}
use Rattle.skk_calls.specs.declared.call.Call.TheVariants.{Purge}
use Rattle.skk_calls.specs.Learning.{purged, purge_changes}
use Rattle.skk_calls.specs.States.{row_at, rows_of}
use Rattle.learn_index.specs.declared.plan.Plan.{Plan}
use Rattle.learn_index.specs.Plans.{IsPlanned, row_plan}
use Rattle.learn_index.proofs.Planned.{before_keyed, purge_planned}
use Rattle.learn_index.proofs.planning.plan_purge.Goals as goal

pub purge_row-requires-clause-key : goal.purge_row-requires-clause-key
purge_row-requires-clause-key c =
    let key = c.args.key.now in
    subst (λ found. IfSome found (λ before. before.key ≡ key)) (sym c.row-before.ensures)
    (before_keyed key (rows_of c.args.index.now.state c.args.book))

pub returns : goal.returns
returns c =
    let state = c.args.index.now.state in
    let book = c.args.book in
    let key = c.args.key.now in
    let word = c.args.word.now in
    let stamp = c.in-Some-checked_add.stamp in
    let same : c.saturating_add.result ≡ stamp =
    omega (arith, c.saturating_add.ensures, c.in-Some-checked_add.ensures) in
    let made =
    c.in_ok-row.ensures
    ∙ ap (λ before. cond (purge_changes before key word) (Some (purged before key word c.saturating_add.result)) None)
    c.row-before.ensures
    ∙ ap (λ n. cond (purge_changes (row_at state book key) key word)
    (Some (purged (row_at state book key) key word n)) None) same in
    let planned =
    purge_planned state book key word c.in-Some.row stamp
    (omega (arith, c.in-Some-checked_add.ensures, c.count-count.ensures.value))
    (omega (arith, c.in-Some-checked_add.ensures)) c.in_ok-row.field-0 made c.in-Some.is in
    IfOk-weaker c.plan_row.result (λ plan. plan ≡ row_plan book stamp key c.in-Some.row Purged)
    (IsPlanned state (Purge book key word))
    (λ (plan : Plan) e. subst (IsPlanned state (Purge book key word)) (sym e) planned) c.plan_row.ensures
