use Rattle.std.proofs.Common.{◌∙◌, ap, inr, IfOk, List, ℕ, subst, sym, []}
use Rattle.skk_calls.specs.Chronicles.{history_of}
use Rattle.skk_calls.specs.Histories.{dialog}
use Rattle.skk_outside.specs.Moved.{moved_sink}
use Rattle.learned_store.specs.Stores.{opening_now}
use Rattle.script_typing.specs.Woven.{Tasks, tasks_of}
use Rattle.script_typing.specs.Workers.{WorkedBy}
use Rattle.caller_work.specs.Disks.{disk_now}
use Rattle.run_endings.specs.Status.{Ended}
use Rattle.skk_top.specs.WeaveCommand.{LeavesPages, WeavesLines}
use Rattle.skk_top.proofs.Disks.{runs-quiet}
use Rattle.skk_top.proofs.Weaves.{prints-woven, weaves-closed}
use Rattle.skk_top.proofs.caller_each.type_by_each.Goals as goal

-- what callers left of the script was printed
pub returns-in-Ok-type_by_callers-clause-leaves : goal.returns-in-Ok-type_by_callers-clause-leaves
returns-in-Ok-type_by_callers-clause-leaves g c =
    let D = g.D.Disk in
    let table = c.args.begun.rules in
    let lines = c.args.begun.script in
    let opening = opening_now D c.args.begun.store in
    let cut = c.in-Ok.ensures.cut in
    let types = c.in-Ok-type_by_callers.ensures.types in
    let closed = c.in-Ok-type_by_callers.left.closed in
    let typed = c.in-Ok-type_by_callers.left.typed in
    let said = dialog (history_of closed.chronicle) in
    let ended = c.print_typed-ended.result in
    let out = moved_sink g.O.Outside c.args.out.now c.print_typed-ended.new.out in
    let disk = disk_now D closed.disk in
    let worked = subst (λ (ts : Tasks). WorkedBy table ts 0 typed types.numbers types.dialogs) cut.tasks_is
    types.worked in
    let prints = prints-woven table lines said out typed ended types.numbers types.dialogs types.callers worked
    (subst (λ (order : List ℕ). IfOk typed (λ left. LeavesPages order left ended out))
    (c.as_slice.ensures.value ∙ cut.order_is)
    c.print_typed-ended.ensures.some)
    c.print_typed-ended.ensures.none c.print_typed-ended.ensures.counted
    (λ whole pages sessions done. c.pages_are_woven.ensures table lines said types.numbers types.dialogs whole pages
    sessions types.callers done)
    (λ pages sessions done. c.callers_have_ended.ensures table (tasks_of lines) said types.numbers types.dialogs pages
    sessions types.callers done) in
    inr (subst (λ (e : Ended). WeavesLines opening table lines
    (record { ended = e; chronicle = closed.chronicle; disk = closed.disk }) out disk) (sym c.end_by.ensures)
    (weaves-closed opening table lines ended closed.chronicle closed.disk closed.tally out disk types.numbers
    types.dialogs types.callers worked.asks
    (c.callers_have_asked.ensures table (tasks_of lines) said types.numbers types.dialogs types.callers worked.asks)
    prints types.legal types.kept types.tally_is
    (λ served strangers leads apart. c.typists_apart_type_alone.ensures table lines opening
    (history_of closed.chronicle) cut.well cut.first types.legal.1 served strangers leads apart)))

-- memory was out for the cutting, and for a desk
pub returns-in_default-clause-runs : goal.returns-in_default-clause-runs
returns-in_default-clause-runs g c =
    let D = g.D.Disk in
    runs-quiet D c.args.begun.store.state c.args.begun.store.journal.disk _ c.without_calls.result
    (c.without_calls.ensures
    ∙ ap (λ (d : g.row.D.Denot). record { ended = _; chronicle = []; disk = d }) c.close.ensures)

pub returns-clause-runs : goal.returns-clause-runs
returns-clause-runs g c =
    let D = g.D.Disk in
    runs-quiet D c.args.begun.store.state c.args.begun.store.journal.disk _ c.without_calls-in-Err.result
    (c.without_calls-in-Err.ensures
    ∙ ap (λ (d : g.row.D.Denot). record { ended = _; chronicle = []; disk = d }) c.in-Err.ensures.back)
