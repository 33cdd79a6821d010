use Rattle.std.proofs.Common.{rules, ap}
use Rattle.desk_history.proofs.Joining.{caller-comes-joins}
use Rattle.desk_history.proofs.history.History.take_in.Goals as goal

pub join_seat-requires : goal.join_seat-requires
join_seat-requires c =
    let pen = c.pen.inside.seat in
    let seat = c.seat.inside.seat in
    let is = ap (λ me. me.0) c.seat.invariant in (
      search rules,
      search rules,
      search rules,
      search rules,
      caller-comes-joins {S = Unit {0}} pen.id seat.id pen.me.0 seat.me.0 _ is,
    )
