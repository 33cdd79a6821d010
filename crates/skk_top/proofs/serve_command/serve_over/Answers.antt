use Rattle.std.proofs.Common.{◌≡◌, ◌∙◌, All, List, [], ap, inr, sym, subst}
use Rattle.skk_calls.specs.Chronicles.{history_of}
use Rattle.skk_outside.specs.Moved.{moved_sink}
use Rattle.desk_history.specs.Seats.{CallerState}
use Rattle.learned_store.specs.Stores.{OpenStore}
use Rattle.shared_desk.specs.Told.{Stood}
use Rattle.caller_work.specs.Disks.{disk_now}
use Rattle.skk_top.specs.ServeCommand.{ServesByOffice, ServesConnections, moved_listener}
use Rattle.run_endings.specs.Status.{Ended}
use Rattle.caller_work.specs.Closings.{closes-at}
use Rattle.skk_top.proofs.Disks.{runs-quiet}
use Rattle.skk_top.proofs.Visits.{desk_slips, serves-closed}
use Rattle.skk_top.proofs.serve_command.serve_over.Goals as goal

-- what the callers said for the connections, and what the desk leaves
pub returns-in-Ok-clause-leaves : goal.returns-in-Ok-clause-leaves
returns-in-Ok-clause-leaves g c =
    let D = g.D.Disk in
    let service = c.args.serving.now.service in
    let table = c.args.serving.now.rules.now in
    let opening = g.N.OpeningName.opening in
    let chronicle = c.close-closed.result.chronicle in
    let history = history_of chronicle in
    let closed = c.close-closed.ensures in
    let outcome = c.serve_port-outcome.result in
    let out = moved_sink g.O.Outside c.args.out.now c.serve_port-outcome.new.out in
    let net =
    moved_listener g.P.Listener g.P.Link.Outside c.args.net.now c.serve_port-outcome.new.net
    in
    let serves = subst (λ n. ServesByOffice service table desk_slips n c.serve_port-outcome.new.roll outcome out net)
    c.in-Ok.ensures.roll c.serve_port-outcome.ensures.serves in
    let stood = subst (λ (slips : List CallerState). All (Stood history) slips) c.of.ensures closed.slips in
    let closes = closes-at D opening g.N.LearnedName.past c.args.store chronicle
    c.close-closed.result.tally c.close-closed.result.disk c.requires.named c.requires.past closed.stands closed.now
    closed.since closed.tally in
    inr (subst (λ (e : Ended). ServesConnections service opening table
    (record { ended = e; chronicle = chronicle; disk = c.close-closed.result.disk }) out net
    (disk_now D c.close-closed.result.disk)) (sym c.end_wanting.ensures)
    (serves-closed service opening table chronicle c.close-closed.result.disk c.close-closed.result.tally
    c.wants_memory-wanted.result c.serve_port-outcome.new.roll outcome out net
    (disk_now D c.close-closed.result.disk) serves stood closed.strangers closes.legal closes.kept
    closed.tally c.wants_memory-wanted.ensures))

pub returns-in-Ok-clause-runs : goal.returns-in-Ok-clause-runs
returns-in-Ok-clause-runs g c =
    let D = g.D.Disk in
    let left = c.close-closed.result in
    let closed = c.close-closed.ensures in
    (closes-at D g.N.OpeningName.opening g.N.LearnedName.past c.args.store left.chronicle left.tally left.disk
    c.requires.named c.requires.past closed.stands closed.now closed.since closed.tally).runs

pub returns-in-Err-clause-runs : goal.returns-in-Err-clause-runs
returns-in-Err-clause-runs g c =
    let D = g.D.Disk in
    let disk : c.close.result ≡ c.args.store.journal.disk =
    c.close.ensures ∙ ap (λ (s : OpenStore g.row.D.Denot). s.journal.disk) c.in-Err.ensures.back in
    runs-quiet D g.N.OpeningName.opening.state c.args.store.journal.disk _ c.without_calls.result
    (c.without_calls.ensures ∙ ap (λ (d : g.row.D.Denot). record { ended = _; chronicle = []; disk = d }) disk)
