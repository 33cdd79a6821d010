use Rattle.std.proofs.Common.{sym, subst, arith}
use Rattle.std.proofs.lemmas.Result.{on_ok_weaker, MatchResult-weaker}
use Rattle.skk_server.specs.Stages.{AddsWork, EndsTaking}
use Rattle.skk_server.proofs.hall.Hall.take_one.Goals as goal
use Rattle.skk_server.proofs.Stages.{counts-begin, stage-begins}

pub returns-in-Ok-clause-drawn : goal.returns-in-Ok-clause-drawn
returns-in-Ok-clause-drawn g c =
    let counts = counts-begin c.welcome.ensures.adds in
    omega (arith, counts.1, c.requires.drawn, c.make_place.ensures.counts.1)

pub returns-in-Ok-clause-one_more : goal.returns-in-Ok-clause-one_more
returns-in-Ok-clause-one_more g c =
    let counts = counts-begin c.welcome.ensures.adds in omega (arith, counts.0, c.make_place.ensures.counts.0)

pub returns-in-Ok-clause-ok : goal.returns-in-Ok-clause-ok
returns-in-Ok-clause-ok g c =
    let counts = counts-begin c.welcome.ensures.adds in
    on_ok_weaker c.welcome.result
    (λ one. (
      omega (arith, counts.0, c.make_place.ensures.counts.0),
      omega (arith, one, counts.1, c.make_place.ensures.counts.1),
    ))
    c.welcome.ensures.ok

pub returns-in-Ok-clause-err : goal.returns-in-Ok-clause-err
returns-in-Ok-clause-err g c =
    let nets = g.N.Listener in
    let counts = counts-begin c.welcome.ensures.adds in
    MatchResult-weaker c.welcome.result c.welcome.ensures.err (λ done nothing. nothing)
    (λ end told. subst (EndsTaking nets c.args.net.now c.accept.new.net c.args.self.now c.welcome.new.self)
    (sym told.0) (omega (arith, told.1, counts.1, c.make_place.ensures.counts.1)))

pub returns-in-Ok-clause-stage : goal.returns-in-Ok-clause-stage
returns-in-Ok-clause-stage g c =
    let links = g.L.Outside in
    let callers = g.C.Caller in
    let drawn = g.W.Office.drawn in
    stage-begins c.make_place.ensures.stage
    (omega (arith, c.requires.level, c.make_place.ensures.counts.0, c.make_place.ensures.counts.1)) c.in-Ok.ensures.ok
    (omega (arith, c.requires.drawn, c.make_place.ensures.counts.1))
    (subst (λ rules. AddsWork rules links callers (drawn c.args.roll.now) (drawn c.welcome.new.roll) c.in-Ok.link
    c.make_place.new.self c.welcome.new.self) (sym c.requires.rules) c.welcome.ensures.adds)
