use Rattle.std.proofs.Common.{rules}
use Rattle.desk_history.proofs.Looking.{looks}
use Rattle.desk_history.proofs.history.History.look.Goals as goal

pub load-requires : goal.load-requires
load-requires c =
    let pen = c.pen.inside.seat in
    let slots = c.self.inside.table.shared.table_id.slots in
    (search rules, search rules, looks {S = Unit {0}} slots pen.id pen.me c.pen.invariant.0)
