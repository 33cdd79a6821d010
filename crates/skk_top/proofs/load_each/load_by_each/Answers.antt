use Rattle.std.proofs.Common.{◌∙◌, ap, inr, List, subst, sym, []}
use Rattle.romaji_rules.specs.Standard.{standard}
use Rattle.romaji_rules.specs.declared.rule.Rule.{Rule}
use Rattle.skk_calls.specs.Chronicles.{history_of}
use Rattle.skk_calls.specs.Histories.{dialog}
use Rattle.skk_outside.specs.Moved.{moved_sink}
use Rattle.learned_store.specs.Stores.{opening_now}
use Rattle.script_typing.specs.Woven.{Tasks, tasks_of}
use Rattle.script_typing.specs.Workers.{WorkedBy}
use Rattle.caller_work.specs.Disks.{disk_now}
use Rattle.skk_top.specs.LoadCommand.{load_lines, LoadsTasks}
use Rattle.run_endings.specs.Status.{Ended}
use Rattle.skk_top.proofs.Disks.{runs-quiet}
use Rattle.skk_top.proofs.LoadInput.{drawn-give_keys}
use Rattle.skk_top.proofs.SharedLoads.{shares-closed}
use Rattle.skk_top.proofs.load_each.load_by_each.Goals as goal

-- what callers left of the lines was summed up
pub returns-in-Ok-type_by_callers-clause-leaves : goal.returns-in-Ok-type_by_callers-clause-leaves
returns-in-Ok-type_by_callers-clause-leaves g c =
    let D = g.D.Disk in
    let options = c.args.options in
    let lines = load_lines options in
    let tasks = tasks_of lines in
    let opening = opening_now D c.args.store in
    let types = c.in-Ok-type_by_callers.ensures.types in
    let closed = c.in-Ok-type_by_callers.left.closed in
    let typed = c.in-Ok-type_by_callers.left.typed in
    let history = history_of closed.chronicle in
    let ended = c.sum_up_typed-ended.result in
    let summed = c.sum_up_typed-ended.ensures in
    let out = moved_sink g.O.Outside c.args.out.now c.sum_up_typed-ended.new.out in
    let disk = disk_now D closed.disk in
    let worked = subst (λ (r : List Rule). WorkedBy r tasks 0 typed types.numbers types.dialogs)
    c.in-Ok.ensures.rules
    (subst (λ (ts : Tasks). WorkedBy c.in-Ok.shared.rules ts 0 typed types.numbers types.dialogs)
    c.in-Ok.ensures.tasks types.worked) in
    let keys = drawn-give_keys options in
    inr (subst (λ (e : Ended). LoadsTasks options opening
    (record { ended = e; chronicle = closed.chronicle; disk = closed.disk }) out disk) (sym c.end_by.ensures)
    (shares-closed options opening closed.chronicle closed.disk closed.tally out disk types.numbers types.dialogs
    types.legal types.kept types.tally_is types.callers typed ended worked
    (c.callers_have_asked.ensures standard tasks (dialog history) types.numbers types.dialogs types.callers worked.asks)
    summed.whole summed.cut summed.none summed.counted
    (λ pages sessions done. c.callers_have_ended.ensures standard tasks (dialog history) types.numbers types.dialogs
    pages sessions types.callers done)
    (λ strangers served leads apart. c.typists_apart_play_alone.ensures standard lines opening history
    (c.sessions_of_their_own_are_apart.ensures.well lines keys)
    (c.sessions_of_their_own_are_apart.ensures.first lines keys) types.legal.1 served strangers leads apart)))

-- memory was out for the lines, and for a desk
pub returns-in_default-clause-runs : goal.returns-in_default-clause-runs
returns-in_default-clause-runs g c =
    let D = g.D.Disk in
    runs-quiet D c.args.store.state c.args.store.journal.disk _ c.without_calls.result (c.without_calls.ensures
    ∙ ap (λ (d : g.row.D.Denot). record { ended = _; chronicle = []; disk = d }) c.close.ensures)

pub returns-clause-runs : goal.returns-clause-runs
returns-clause-runs g c =
    let D = g.D.Disk in
    runs-quiet D c.args.store.state c.args.store.journal.disk _ c.without_calls-in-Err.result
    (c.without_calls-in-Err.ensures
    ∙ ap (λ (d : g.row.D.Denot). record { ended = _; chronicle = []; disk = d }) c.in-Err.ensures.back)
