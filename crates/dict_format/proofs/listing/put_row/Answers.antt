use Rattle.std.proofs.Common.{sym, subst}
use Rattle.std.proofs.lemmas.Result.{on_ok_weaker}
use Rattle.skk_text.specs.declared.sequence.Sequence.{Sequence}
use Rattle.skk_calls.specs.declared.row.Row.{Row}
use Rattle.dict_format.specs.FileBuilding.{KnowsKeys}
use Rattle.dict_format.proofs.FileRows.{knows-new, knows-again}
use Rattle.dict_format.proofs.listing.put_row.Goals as goal

pub returns-then-branch-clause-keys : goal.returns-then-branch-clause-keys
returns-then-branch-clause-keys c =
    on_ok_weaker c.push.result
    (λ pushed knew.
    subst (λ (rows : Sequence Row). KnowsKeys rows c.add.new.self) (sym pushed)
    (knows-new c.args.rows.now c.args.readings.now c.add.new.self c.key.result.now c.in_ok-add.field-0 knew
    c.in_ok-add.ensures.is_new c.in_ok-add.ensures.known c.args.row (sym c.key.ensures.value) c.if-branch.true))
    c.push.ensures.ok

pub returns-else-branch-clause-keys : goal.returns-else-branch-clause-keys
returns-else-branch-clause-keys c =
    on_ok_weaker c.push-else-branch.result
    (λ pushed knew. knows-again c.args.rows.now c.args.readings.now c.add.new.self c.key.result.now c.in_ok-add.field-0
    knew c.in_ok-add.ensures.is_new c.in_ok-add.ensures.known c.if-branch.false)
    c.push-else-branch.ensures.ok
