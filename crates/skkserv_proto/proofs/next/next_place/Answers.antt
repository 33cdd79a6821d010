use Rattle.std.proofs.Common.{sym, subst, inl, inr, IfOk}
use Rattle.skkserv_proto.specs.Feeding.{ReadsTo}
use Rattle.skkserv_proto.specs.declared.place.RequestPlace.TheVariants.{Reading}
use Rattle.skkserv_proto.proofs.Feeds.{reads-stays}
use Rattle.skkserv_proto.proofs.next.next_place.Goals as goal

pub returns-in-Command-clause-reads : goal.returns-in-Command-clause-reads
returns-in-Command-clause-reads c =
    subst (λ p. IfOk c.next_behind_command.result
    (λ r. ReadsTo (record { place = p; fed = c.args.fed }) c.args.bytes.now r.0 r.1.items)) (sym c.in-Command.is)
    c.next_behind_command.ensures.reads

pub returns-in-Reading-clause-reads : goal.returns-in-Reading-clause-reads
returns-in-Reading-clause-reads c =
    subst (λ p. IfOk c.next_in_reading.result
    (λ r. ReadsTo (record { place = p; fed = c.args.fed }) c.args.bytes.now r.0 r.1.items)) (sym c.in-Reading.is)
    (subst (λ t. IfOk c.next_in_reading.result
    (λ r. ReadsTo (record { place = Reading c.in-Reading.wants t; fed = c.args.fed }) c.args.bytes.now r.0 r.1.items))
    c.as_slice.ensures c.next_in_reading.ensures.reads)

pub returns-in-Ended-clause-reads : goal.returns-in-Ended-clause-reads
returns-in-Ended-clause-reads c =
    reads-stays c.args.place.now c.args.fed c.args.bytes.now c.new.result.items c.new.ensures.items (inl c.in-Ended.is)

pub returns-in-Bad-clause-reads : goal.returns-in-Bad-clause-reads
returns-in-Bad-clause-reads c =
    reads-stays c.args.place.now c.args.fed c.args.bytes.now c.new-in-Bad.result.items c.new-in-Bad.ensures.items
    (inr (c.in-Bad.at, c.in-Bad.is))
