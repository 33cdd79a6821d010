use Rattle.std.proofs.Common.{◌<◌, ap, length, arith, refl}
use Rattle.std.proofs.lemmas.List.Sums.{get_or-le-sum_by, sum_by-set}
use Rattle.skk_server.specs.Works.{running_of}
use Rattle.skk_server.proofs.hall.Hall.join.Goals as goal
use Rattle.skk_server.proofs.Joins.{joins-none, joined-at, running-joined}

pub returns-in_default-clause-joins : goal.returns-in_default-clause-joins
returns-in_default-clause-joins g c = joins-none

pub returns-in_default-get_mut-clause-joins : goal.returns-in_default-get_mut-clause-joins
returns-in_default-get_mut-clause-joins g c = joins-none

pub overflow_sub-self : goal.overflow_sub-self
overflow_sub-self g c =
    let work = c.in-Some-get_mut.work.now in
    let there : c.in-Some.place < length c.args.self.now.works.items =
    omega (arith, c.in-Some-get_mut.ensures.variant.0 refl) in
    let within = get_or-le-sum_by running_of c.args.self.now.works.items c.in-Some.place work there in
    let same = ap running_of c.in-Some-get_mut.ensures.value in
    omega (arith, within, same, c.running-running.ensures, c.requires.places.running_is)

pub returns-clause-joins : goal.returns-clause-joins
returns-clause-joins g c =
    record {
      joined = joined-at g.L.Outside
          g.C.Caller c.args.self.now.works.items c.in-Some.place c.in-Some-get_mut.work.now c.join.new.self
          c.in-Some-get_mut.ensures.value c.join.ensures;
      passes_stay = refl;
      ends_stay = refl;
    }

pub returns-clause-places : goal.returns-clause-places
returns-clause-places g c =
    let work = c.in-Some-get_mut.work.now in
    let places = c.requires.places in
    let there : c.in-Some.place < length c.args.self.now.works.items =
    omega (arith, c.in-Some-get_mut.ensures.variant.0 refl) in
    let all = sum_by-set running_of c.args.self.now.works.items c.in-Some.place c.join.new.self work there in
    let same = ap running_of c.in-Some-get_mut.ensures.value in
    let none = running-joined g.L.Outside
    g.C.Caller work c.join.new.self c.join.ensures in
    record {
      few = omega (arith, places.few);
      running_is = omega (arith, all, same, none, c.running-running.ensures, places.running_is);
      passes_fit = places.passes_fit;
      ends_fit = places.ends_fit;
    }
