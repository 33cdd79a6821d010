use Rattle.std.proofs.Common.{rules, ap}
use Rattle.desk_history.proofs.Joining.{roll-returns-joins}
use Rattle.desk_history.proofs.history.History.take_back.Goals as goal

pub join_seat-requires : goal.join_seat-requires
join_seat-requires c =
    let pen = c.pen.inside.seat in
    let roll = c.roll.inside in
    let is = ap (λ me. me.0) c.roll.invariant in (
      search rules,
      search rules,
      search rules,
      search rules,
      roll-returns-joins {S = Unit {0}} pen.id roll.seat.id pen.me.0 roll.seat.me.0 roll.drawn is,
    )
