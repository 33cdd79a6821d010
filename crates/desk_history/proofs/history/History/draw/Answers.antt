use Rattle.std.proofs.Common.{rules, ap}
use Rattle.desk_history.proofs.Cuts.{roll-draws-splits}
use Rattle.desk_history.proofs.history.History.draw.Goals as goal

pub split_seat-seat-requires : goal.split_seat-seat-requires
split_seat-seat-requires c =
    let roll = c.roll.inside in
    let is = ap (λ me. me.0) c.roll.invariant in
    (search rules, search rules, roll-draws-splits {S = Unit {0}} roll.seat.id roll.drawn roll.seat.me.0 is)
