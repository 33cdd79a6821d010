use Rattle.std.proofs.Common.{rules, ap}
use Rattle.desk_history.proofs.Cuts.{hands-over-splits}
use Rattle.desk_history.proofs.history.History.enter.Goals as goal

pub split_seat-requires : goal.split_seat-requires
split_seat-requires c =
    let seat = c.seat.inside.seat in
    let is = ap (λ me. me.0) c.seat.invariant in
    (search rules, search rules, hands-over-splits {S = Unit {0}} seat.id _ seat.me.0 is)
