use Rattle.std.proofs.Common.{refl, arith}
use Rattle.skk_server.proofs.serving_all.serve_in.Goals as goal
use Rattle.skk_server.proofs.Stages.{stage-new, stage-served, ends-stay}

pub take_all-end-requires-clause-stage : goal.take_all-end-requires-clause-stage
take_all-end-requires-clause-stage g c κs within = stage-new c.requires.opens

pub returns-clause-serves : goal.returns-clause-serves
returns-clause-serves g c =
    let nets = g.N.Listener in
    let taken = c.take_all-end.ensures in
    let seen_off = c.see_all_off.ensures in
    let hall = c.see_all_off.new.self in
    stage-served c.requires.opens seen_off.stage (omega (arith, seen_off.none))
    (omega (arith, seen_off.counts.0, taken.few)) (omega (arith, seen_off.counts.1, taken.drawn))
    (ends-stay nets c.args.start.net.value c.take_all-end.new.net c.see_all_off.new.net c.take_all-end.new.self hall
    c.args.server.now.connections c.take_all-end.result seen_off.coming seen_off.faults seen_off.counts taken.ends)
    refl refl (omega (arith, seen_off.counts.0, taken.few))
