use Rattle.std.proofs.Common.{◌∙◌, ap, subst, inr, List, []}
use Rattle.romaji_rules.specs.Standard.{standard}
use Rattle.romaji_rules.specs.declared.rule.Rule.{Rule}
use Rattle.skk_outside.specs.Moved.{moved_sink}
use Rattle.key_scripts.specs.declared.line.Line.{Line}
use Rattle.skk_calls.specs.Openings.{said_in}
use Rattle.learned_store.specs.Stores.{opening_now}
use Rattle.caller_work.specs.Disks.{disk_now}
use Rattle.skk_top.specs.LoadCommand.{load_lines}
use Rattle.script_typing.specs.Lines.{PlaysLines}
use Rattle.skk_top.proofs.Disks.{runs-quiet}
use Rattle.skk_top.proofs.LoadInput.{drawn-open_well}
use Rattle.skk_top.proofs.Loads.{loads-closed}
use Rattle.skk_top.proofs.load_command.load_by_one.Goals as goal

pub with_caller-requires-clause-fits : goal.with_caller-requires-clause-fits
with_caller-requires-clause-fits g c =
    rw (c.as_slice.ensures, c.in-Ok.ensures.lines) (drawn-open_well c.args.options)

-- lines that were played
pub returns-in-Ok-with_caller-clause-leaves : goal.returns-in-Ok-with_caller-clause-leaves
returns-in-Ok-with_caller-clause-leaves g c =
    let D = g.D.Disk in
    let options = c.args.options in
    let load = c.in-Ok.load in
    let left = c.in-Ok-with_caller.worked.left in
    let closed = c.in-Ok-with_caller.worked.closed in
    let worked = c.in-Ok-with_caller.ensures in
    let said = said_in closed.chronicle 0 in
    let summed = c.sum_up-summed.ensures in
    let plays : PlaysLines standard (load_lines options) left.ended [] left.sessions.entries [] said =
    subst (λ (r : List Rule). PlaysLines r (load_lines options) left.ended [] left.sessions.entries [] said)
    c.in-Ok.ensures.rules
    (subst (λ (ls : List Line). PlaysLines load.rules ls left.ended [] left.sessions.entries [] said)
    (c.as_slice.ensures ∙ c.in-Ok.ensures.lines) worked.leaves) in
    inr (rw c.end_by.ensures
    (loads-closed options (opening_now D c.args.store) closed.chronicle closed.disk closed.tally left.sessions.entries
    (moved_sink g.O.Outside c.args.out.now c.sum_up-summed.new.out) (disk_now D closed.disk) worked.closes.legal
    worked.one worked.closes.kept worked.closes.tally_is left.ended c.sum_up-summed.result plays summed.some
    summed.none summed.counted))

-- memory was out
pub returns-in_default-clause-runs : goal.returns-in_default-clause-runs
returns-in_default-clause-runs g c =
    let D = g.D.Disk in
    runs-quiet D c.args.store.state c.args.store.journal.disk _ c.without_calls.result (c.without_calls.ensures
    ∙ ap (λ (d : g.row.D.Denot). record { ended = _; chronicle = []; disk = d }) c.close.ensures)

pub returns-clause-runs : goal.returns-clause-runs
returns-clause-runs g c =
    let D = g.D.Disk in
    runs-quiet D c.args.store.state c.args.store.journal.disk _ c.without_calls-in-Err.result
    (c.without_calls-in-Err.ensures
    ∙ ap (λ (d : g.row.D.Denot). record { ended = _; chronicle = []; disk = d }) c.in-Err.ensures.back)
