use Rattle.std.proofs.Common.{subst, sym, refl, inl, inr}
use Rattle.skk_outside.specs.Moved.{moved_shelf, moved_sink}
use Rattle.skk_top.specs.Disks.{moved_disk}
use Rattle.skk_top.specs.ServeCommand.{LeavesServed, moved_listener}
use Rattle.run_endings.specs.declared.finish.Run.{Run}
use Rattle.skk_top.proofs.Runs.{Keeps-self}
use Rattle.skk_top.proofs.serve_command.run_serve.Goals as goal

-- the files that are named were read
pub returns-in-Ok-clause-leaves : goal.returns-in-Ok-clause-leaves
returns-in-Ok-clause-leaves g c =
    let D = g.D.Disk in
    let table = c.in-Ok.table in
    let run = c.serve_learned.result in
    let out = moved_sink g.O.Outside c.args.out.now c.serve_learned.new.out in
    let net =
    moved_listener g.P.Listener g.P.Link.Outside c.args.net.now c.serve_learned.new.net
    in
    let disk = moved_disk D c.args.disk run.disk in
    inr (record {
      rules = table.rules;
      books = table.system;
      are_rules = c.in-Ok.ensures.rules;
      are_rows = c.in-Ok.ensures.rows;
      served = c.serve_learned.ensures.leaves;
    })

-- one of them is refused
pub returns-in-Err-clause-leaves : goal.returns-in-Err-clause-leaves
returns-in-Err-clause-leaves g c =
    let D = g.D.Disk in
    let shelf = moved_shelf g.H.Shelf c.args.shelf.now c.read_table.new.shelf in
    let out = moved_sink g.O.Outside c.args.out.now c.args.out.now in
    let net =
    moved_listener g.P.Listener g.P.Link.Outside c.args.net.now c.args.net.now
    in
    subst (λ (r : Run g.row.D.Denot). LeavesServed c.args.options.now r shelf out net
    (moved_disk D c.args.disk r.disk)) (sym c.end_unopened.ensures.run)
    (inl ((record { cause = c.in-Err.ensures.refused; uncalled = refl; unwritten = Keeps-self _ }, refl), refl))
