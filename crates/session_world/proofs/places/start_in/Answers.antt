use Rattle.std.proofs.Common.{[]}
use Rattle.std.proofs.lemmas.List.Elements.{All-set}
use Rattle.session_world.specs.Keeping.{IsSeat}
use Rattle.session_world.specs.Seats.{with_answers}
use Rattle.session_world.specs.declared.seat.Seat.{Seat}
use Rattle.session_world.proofs.Taking.{seat-changed}
use Rattle.session_world.proofs.places.start_in.Goals as goal

pub returns-in_err-start-clause-seats : goal.returns-in_err-start-clause-seats
returns-in_err-start-clause-seats c =
    All-set (IsSeat c.args.rules.now) c.args.seats.now.items c.args.place c.start.new.self c.start.ensures.seat
    c.requires.seats

pub returns-clause-seats : goal.returns-clause-seats
returns-clause-seats c =
    All-set (IsSeat c.args.rules.now) c.args.seats.now.items c.args.place c.start.new.self c.start.ensures.seat
    c.requires.seats

pub returns-clause-started : goal.returns-clause-started
returns-clause-started c =
    seat-changed c.args.seats.now.items c.args.place c.index_mut-seat.result.now c.start.new.self
    (λ (seat : Seat). with_answers c.args.rules.now seat c.args.key []) c.index_mut-seat.ensures.value
    c.in_ok-start.ensures.started
