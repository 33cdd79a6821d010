use Rattle.std.proofs.Common.{rules}
use Rattle.desk_history.proofs.Cuts.{roll-leaves-splits}
use Rattle.desk_history.proofs.history.History.new.Goals as goal

pub split_seat-roll-requires : goal.split_seat-roll-requires
split_seat-roll-requires c =
    let seat = c.in_ok-table.seat in
    (search rules, search rules, roll-leaves-splits {S = Unit {0}} seat.id seat.me.0)
