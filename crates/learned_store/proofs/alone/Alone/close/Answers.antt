use Rattle.std.proofs.Common.{subst}
use Rattle.learned_store.specs.Stands.{NotedStore, RecoverAmong, left_behind}
use Rattle.learned_store.proofs.alone.Alone.close.Goals as goal

pub returns-clause-now : goal.returns-clause-now
returns-clause-now g c =
    let D = g.D.Disk in
    subst (λ (s : NotedStore g.row.D.Denot).
    RecoverAmong s.store.state (left_behind g.N.OpeningName.opening.state s.notes)
    (D.left_since s.store.journal.disk (D.time s.store.journal.disk))) c.self.view_is c.close.ensures.now
