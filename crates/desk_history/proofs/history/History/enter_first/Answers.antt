use Rattle.std.proofs.Common.{rules, ap, ◌∙◌}
use Rattle.desk_history.specs.Seats.{first_number}
use Rattle.desk_history.proofs.Entering.{enters}
use Rattle.desk_history.proofs.history.History.enter_first.Goals as goal

pub fetch_add-requires : goal.fetch_add-requires
fetch_add-requires g c =
    let pen = c.pen.inside.seat in
    let slots = c.self.inside.table.shared.table_id.slots in
    let is = ap (λ p. first_number p.ended) c.pen.view_is ∙ c.requires.first in
    search (rules, enters {S = Unit {0}} slots g.N.NamedEntry.entry pen.id pen.me)
