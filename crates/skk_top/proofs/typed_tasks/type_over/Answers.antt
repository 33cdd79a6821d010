use Rattle.std.proofs.Common.{◌∙◌, All, List, ap, arith, map, subst}
use Rattle.skk_calls.specs.Chronicles.{history_of}
use Rattle.desk_history.specs.Seats.{CallerState}
use Rattle.learned_store.specs.Stores.{OpenStore}
use Rattle.script_typing.specs.Workers.{WorkedBy}
use Rattle.shared_desk.specs.Told.{Stood}
use Rattle.caller_work.specs.Closings.{closes-at}
use Rattle.skk_top.proofs.Weaves.{told-callers}
use Rattle.skk_top.proofs.typed_tasks.type_over.Goals as goal

-- what the callers said, and what the desk leaves
pub returns-in-Ok-clause-types : goal.returns-in-Ok-clause-types
returns-in-Ok-clause-types g c =
    let D = g.D.Disk in
    let closed = c.close-closed.ensures in
    let chronicle = c.close-closed.result.chronicle in
    let history = history_of chronicle in
    let tasked = c.type_tasks-typed.ensures in
    let typed = c.type_tasks-typed.result.0 in
    let slips = c.type_tasks-typed.result.1.items in
    let numbers = map (λ (s : CallerState). s.number) slips in
    let dialogs = map (λ (s : CallerState). s.mine) slips in
    let worked = subst (λ n. WorkedBy c.args.rules.now c.args.tasks.entries n typed numbers dialogs)
    c.in-Ok.ensures.roll
    tasked.worked in
    let closes = closes-at D g.N.OpeningName.opening g.N.LearnedName.past
    c.args.store chronicle c.close-closed.result.tally c.close-closed.result.disk c.requires.named c.requires.past
    closed.stands closed.now closed.since closed.tally in
    record {
      numbers = numbers;
      dialogs = dialogs;
      legal = closed.stands.2.legal;
      callers = told-callers history slips
          (subst (λ (ss : List CallerState). All (Stood history) ss) c.of.ensures closed.slips) worked.counted
          (λ number behind.
          closed.strangers number (omega (arith, tasked.drawn, c.in-Ok.ensures.roll, behind)));
      worked = worked;
      kept = closes.kept;
      tally_is = closed.tally;
    }

pub returns-in-Ok-clause-runs : goal.returns-in-Ok-clause-runs
returns-in-Ok-clause-runs g c =
    let D = g.D.Disk in
    let left = c.close-closed.result in
    let closed = c.close-closed.ensures in
    (closes-at D g.N.OpeningName.opening g.N.LearnedName.past c.args.store left.chronicle left.tally left.disk
    c.requires.named c.requires.past closed.stands closed.now closed.since closed.tally).runs

pub returns-in-Err-clause-back : goal.returns-in-Err-clause-back
returns-in-Err-clause-back g c =
    c.close.ensures ∙ ap (λ (s : OpenStore g.row.D.Denot). s.journal.disk) c.in-Err.ensures.back
