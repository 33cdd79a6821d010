use Rattle.std.proofs.Common.{◌∙◌, ap, Err, []}
use Rattle.skk_top.proofs.Disks.{runs-quiet}
use Rattle.skk_top.proofs.type_command.begin_script.Goals as goal

pub returns-in-Err-clause-runs : goal.returns-in-Err-clause-runs
returns-in-Err-clause-runs g c =
    let D = g.D.Disk in
    runs-quiet D c.args.store.state c.args.store.journal.disk _ c.without_calls.result (c.without_calls.ensures
    ∙ ap (λ (d : g.row.D.Denot). record { ended = Err c.in-Err.fault; chronicle = []; disk = d })
    c.close.ensures)
