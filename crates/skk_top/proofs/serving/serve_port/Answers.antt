use Rattle.std.proofs.Common.{refl}
use Rattle.skk_outside.specs.Moved.{moved_sink}
use Rattle.skk_top.proofs.Runs.{Keeps-self}
use Rattle.skk_top.proofs.Visits.{office-unopened, office-untold, office-served}
use Rattle.skk_top.proofs.serving.serve_port.Goals as goal

-- the port could not be opened
pub returns-in-Err-clause-serves : goal.returns-in-Err-clause-serves
returns-in-Err-clause-serves g c =
    let none = c.of_none.ensures in
    let opens = c.open.ensures in
    office-unopened c.args.serving.now.rules.now
    g.P.Listener g.P.Link.Outside g.W.Slip.Kept c.args.serving.now.service (g.W.Office.drawn c.args.roll.now)
    c.args.net.now c.open.new.self c.of_none.result (moved_sink g.O.Outside c.args.out.now c.args.out.now) none.ended
    none.slips none.ends opens.coming opens.over opens.out c.in-Err.ensures.stays c.in-Err.ensures.failed (Keeps-self _)

-- that it is open could not be told
pub returns-in-Err-print_ready-clause-serves : goal.returns-in-Err-print_ready-clause-serves
returns-in-Err-print_ready-clause-serves g c =
    let none = c.of_none-in-Err-print_ready.ensures in
    let opens = c.open.ensures in
    office-untold c.args.serving.now.rules.now
    g.P.Listener g.P.Link.Outside g.W.Slip.Kept c.args.serving.now.service (g.W.Office.drawn c.args.roll.now)
    c.args.net.now c.open.new.self c.of_none-in-Err-print_ready.result c.in-Err-print_ready.fault
    (moved_sink g.O.Outside c.args.out.now c.print_ready.new.out) none.ended none.slips none.ends opens.coming
    opens.over opens.out c.in_default.ensures.opened c.in-Err-print_ready.ensures.prefix
    c.in-Err-print_ready.ensures.stopped

-- its connections were served
pub returns-clause-serves : goal.returns-clause-serves
returns-clause-serves g c =
    let opens = c.open.ensures in
    let written = g.O.Outside.written in
    let faults = g.O.Outside.faults in
    office-served c.args.serving.now.rules.now
    g.P.Listener g.P.Link.Outside g.W.Slip.Kept c.args.serving.now.service (g.W.Office.drawn c.args.roll.now)
    (g.W.Office.drawn c.serve_all-count.new.roll) c.args.net.now c.open.new.self c.serve_all-count.new.net
    c.serve_all-count.result (record {
      ended = c.end_serving.result;
      slips = c.serve_all-count.result.passes;
      ends = c.serve_all-count.result.ends;
    })
    (written c.args.out.now) (written c.print_ready.new.out) (written c.end_serving.new.out) (faults c.args.out.now)
    (faults c.print_ready.new.out) (faults c.end_serving.new.out) c.serve_all-count.ensures.serves opens.coming
    opens.over opens.out c.in_default.ensures.opened opens.counted c.in_default-print_ready.ensures.whole
    c.print_ready.ensures.counted
    c.end_serving.ensures.tells refl refl
