use Rattle.skk_server.proofs.hall.Hall.join_ended.Goals as goal
use Rattle.skk_server.proofs.Joins.{joins-then}

pub returns-clause-joins : goal.returns-clause-joins
returns-clause-joins g c = joins-then c.join_told.ensures.joins c.join_next.ensures.joins
