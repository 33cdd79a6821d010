use Rattle.std.proofs.lemmas.List.Elements.{All-set}
use Rattle.session_world.specs.Keeping.{IsSeat}
use Rattle.session_world.specs.Seats.{answered}
use Rattle.session_world.specs.declared.seat.Seat.{Seat}
use Rattle.session_world.proofs.Taking.{seat-changed}
use Rattle.session_world.proofs.places.take_in.Goals as goal

pub returns-in_err-take-clause-seats : goal.returns-in_err-take-clause-seats
returns-in_err-take-clause-seats c =
    All-set (IsSeat c.args.rules.now) c.args.seats.now.items c.args.place c.take.new.self c.take.ensures.seat
    c.requires.seats

pub returns-clause-seats : goal.returns-clause-seats
returns-clause-seats c =
    All-set (IsSeat c.args.rules.now) c.args.seats.now.items c.args.place c.take.new.self c.take.ensures.seat
    c.requires.seats

pub returns-clause-answered : goal.returns-clause-answered
returns-clause-answered c =
    seat-changed c.args.seats.now.items c.args.place c.index_mut-seat.result.now c.take.new.self
    (λ (seat : Seat). answered c.args.rules.now seat c.args.answer) c.index_mut-seat.ensures.value
    c.in_ok-take.ensures.answered
