use Rattle.skk_outside.specs.Moved.{moved_sink}
use Rattle.skk_server.specs.Ends.{moved_link}
use Rattle.skk_top.proofs.Asks.{asks-lost, asks-told, asks-unended}
use Rattle.skk_top.proofs.Runs.{Keeps-self}
use Rattle.skk_top.proofs.ask_command.ask_over.Goals as goal

-- the server told nothing
pub returns-in_err-told-clause-asks : goal.returns-in_err-told-clause-asks
returns-in_err-told-clause-asks g c =
    asks-lost c.args.what.now (moved_link g.K.Outside c.args.link.now c.ask.new.link)
    (moved_sink g.O.Outside c.args.out.now c.args.out.now) c.from_residual.result c.in_err-told.field-0.0
    c.from_residual.ensures.1 c.in_err-told.ensures.told c.in_err-told.ensures.begun c.in_err-told.ensures.failed
    c.in_err-told.ensures.counted (Keeps-self _)

-- the connection could not be ended
pub returns-in_err-write_through-clause-asks : goal.returns-in_err-write_through-clause-asks
returns-in_err-write_through-clause-asks g c =
    asks-unended c.args.what.now c.from_residual-in_err-write_through.result c.in_ok-told.told
    (g.K.Outside.left c.args.link.now) (g.K.Outside.left c.write_through.new.out) c.in_err-write_through.field-0.0
    (moved_sink g.O.Outside c.args.out.now c.print_told.new.out) c.from_residual-in_err-write_through.ensures.1
    c.in_ok-told.ensures.told c.in_ok-told.ensures.sent c.in_ok-told.ensures.counted c.in_ok-print_told.ensures
    c.in_err-write_through.ensures

pub returns-clause-asks : goal.returns-clause-asks
returns-clause-asks g c =
    asks-told c.args.what.now c.in_ok-told.told (g.K.Outside.left c.args.link.now)
    (g.K.Outside.left c.write_through.new.out) (moved_sink g.O.Outside c.args.out.now c.print_told.new.out)
    c.in_ok-told.ensures.told c.in_ok-told.ensures.sent c.in_ok-told.ensures.counted c.in_ok-print_told.ensures
    c.in_ok-write_through.ensures
