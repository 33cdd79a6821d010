use Rattle.skk_server.proofs.hall.Hall.join_next.Goals as goal
use Rattle.skk_server.proofs.Joins.{joins-none, joins-then}

pub loop-init : goal.loop-init
loop-init g c = (joins-none, c.requires.places)

pub loop-preserved : goal.loop-preserved
loop-preserved g c = (joins-then c.loop.invariant.0 c.join.ensures.joins, c.join.ensures.places)
