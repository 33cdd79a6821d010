use Rattle.std.proofs.Common.{◌∙◌, [], ap, length, refl, subst, arith}
use Rattle.std.proofs.lemmas.List.Sums.{sum_by_push}
use Rattle.skk_server.specs.Works.{IsUnderWay, running_in, running_of}
use Rattle.skk_server.proofs.hall.Hall.welcome.Goals as goal
use Rattle.skk_server.proofs.Joins.{running-few}

pub returns-in-Ok-clause-adds : goal.returns-in-Ok-clause-adds
returns-in-Ok-clause-adds g c = record {
  work = c.begin-work.result;
  works_are = c.push_back_reserved.ensures.items;
  begun_is = c.begin-work.ensures.begun;
  under_way = subst (λ n. IsUnderWay c.args.server.now.service.now.rules.now
      g.L.Outside g.C.Caller n c.begin-work.result
      []) c.in-Ok.ensures.number c.begin-work.ensures.under_way;
  drawn_is = omega (arith, c.in-Ok.ensures.drawn, c.begin-work.ensures.one);
  passes_stay = refl;
  ends_stay = refl;
}

pub returns-in-Err-clause-adds : goal.returns-in-Err-clause-adds
returns-in-Err-clause-adds g c = record {
  work = c.refuse.result;
  works_are = c.push_back_reserved-in-Err.ensures.items;
  begun_is = c.refuse.ensures.begun;
  under_way = c.refuse.ensures.under_way c.args.server.now.service.now.rules.now (g.W.Office.drawn c.args.roll.now);
  drawn_is = omega (arith, c.in-Err.ensures.err, c.refuse.ensures.none);
  passes_stay = refl;
  ends_stay = refl;
}

pub returns-in-Ok-clause-places : goal.returns-in-Ok-clause-places
returns-in-Ok-clause-places g c =
    let place = c.requires.place in
    let work = c.begin-work.result in
    let works = c.args.self.now.works.items in
    let few = running-few work in
    let more = ap running_in c.push_back_reserved.ensures.items ∙ sum_by_push running_of works work in
    let len = ap length c.push_back_reserved.ensures.items in
    record {
      few = omega (arith, place.few, few, c.running.ensures);
      running_is = omega (arith, place.running_is, more, c.running.ensures);
      passes_fit = omega (arith, place.passes_fit, len);
      ends_fit = omega (arith, place.ends_fit, len);
    }

pub returns-in-Err-clause-places : goal.returns-in-Err-clause-places
returns-in-Err-clause-places g c =
    let place = c.requires.place in
    let works = c.args.self.now.works.items in
    let more = ap running_in c.push_back_reserved-in-Err.ensures.items ∙ sum_by_push running_of works c.refuse.result in
    let len = ap length c.push_back_reserved-in-Err.ensures.items in
    record {
      few = omega (arith, place.few);
      running_is = omega (arith, place.running_is, more, c.refuse.ensures.idle);
      passes_fit = omega (arith, place.passes_fit, len);
      ends_fit = omega (arith, place.ends_fit, len);
    }
