use Rattle.std.proofs.Common.{rules, ap, ◌∙◌}
use Rattle.desk_history.specs.Seats.{first_number}
use Rattle.desk_history.proofs.Cuts.{caller-leaves-splits}
use Rattle.desk_history.proofs.history.History.lead_out.Goals as goal

pub split_seat-seat-requires : goal.split_seat-seat-requires
split_seat-seat-requires c =
    let pen = c.pen.inside.seat in
    let first = ap (λ p. first_number p.ended) c.pen.view_is ∙ c.requires.first in
    (search rules, search rules, caller-leaves-splits {S = Unit {0}} pen.id pen.me.0 _ c.pen.invariant.0 first)
