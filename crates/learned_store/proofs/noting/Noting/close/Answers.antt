use Rattle.std.proofs.Common.{subst}
use Rattle.learned_store.specs.Stands.{StandsOver, RecoverAmong, left_behind, NotedStore}
use Rattle.learned_store.proofs.Kept.{opened_now}
use Rattle.learned_store.proofs.Opened.{stands_since}
use Rattle.learned_store.proofs.noting.Noting.close.Goals as goal

pub returns-clause-since : goal.returns-clause-since
returns-clause-since g c start opened =
    let opening = g.N.OpeningName.opening in
    subst (λ (n : NotedStore g.row.D.Denot). StandsOver opening.state n.notes start
    (g.D.Disk.time n.store.journal.disk) (g.D.Disk.left_since n.store.journal.disk)) c.self.view_is
    (stands_since g.D.Disk opening g.N.LearnedName.past c.self.inside.trace c.self.inside.store c.self.invariant.0
    start opened)

pub returns-clause-now : goal.returns-clause-now
returns-clause-now g c =
    let opening = g.N.OpeningName.opening in
    let keeps = c.self.invariant.0.keeps in
    subst (λ (n : NotedStore g.row.D.Denot). RecoverAmong n.store.state (left_behind opening.state n.notes)
    (g.D.Disk.left_since n.store.journal.disk (g.D.Disk.time n.store.journal.disk))) c.self.view_is (
      keeps.0,
      keeps.1,
      opened_now g.D.Disk c.self.inside.store.journal
          c.self.inside.store.state keeps.0 keeps.2,
    )
