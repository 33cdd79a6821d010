use Rattle.std.proofs.Common.{◌∙◌, ◌+◌, ◌∷◌, ap, length, subst, refl}
use Rattle.skk_server.specs.Works.{AreUnderWay}
use Rattle.skk_server.proofs.hall.Hall.see_oldest_off.Goals as goal
use Rattle.skk_server.proofs.Joins.{worked-promised}
use Rattle.skk_server.proofs.Stages.{stage-worked, stage-refused}

pub returns-in-Running-clause-stage : goal.returns-in-Running-clause-stage
returns-in-Running-clause-stage g c =
    let links = g.L.Outside in
    let callers = g.C.Caller in
    let start = c.args.start.now in
    let was = c.in-Running._was in
    let worked = c.join.result in
    let parts = c.part_from.ensures in
    let is = c.in-Some.ensures.items ∙ ap (λ work. work ∷ c.pop_front.new.self.items) c.in-Running.is in
    let way = subst (λ items. AreUnderWay start.rules.value links callers
    (start.first + length c.args.self.now.passes.items) items) is c.requires.stage.under_way in
    stage-worked was worked.link worked.pass worked.end parts.slip.0 c.requires.stage is refl way.0.0
    (worked-promised links callers c.in-Running.handle.promise was worked.link worked.pass worked.end way.0.1
    c.join.ensures)
    parts.slip.2 parts.slip.3 parts.gives_back (ap (λ left. left.items) parts.works) parts.slip.1 parts.ends

pub returns-in-Done-clause-stage : goal.returns-in-Done-clause-stage
returns-in-Done-clause-stage g c =
    let links = g.L.Outside in
    let callers = g.C.Caller in
    let start = c.args.start.now in
    let worked = c.in-Done.worked in
    let parts = c.part_from-in-Done.ensures in
    let is = c.in-Some.ensures.items ∙ ap (λ work. work ∷ c.pop_front.new.self.items) c.in-Done.is in
    let way = subst (λ items. AreUnderWay start.rules.value links callers
    (start.first + length c.args.self.now.passes.items) items) is c.requires.stage.under_way in
    stage-worked c.in-Done._was worked.link worked.pass worked.end parts.slip.0 c.requires.stage is refl way.0.0
    way.0.1 parts.slip.2 parts.slip.3 parts.gives_back (ap (λ left. left.items) parts.works) parts.slip.1 parts.ends

pub returns-in-Refused-clause-stage : goal.returns-in-Refused-clause-stage
returns-in-Refused-clause-stage g c =
    let links = g.L.Outside in
    let callers = g.C.Caller in
    let start = c.args.start.now in
    let back = c.give_back.ensures in
    let is = c.in-Some.ensures.items ∙ ap (λ work. work ∷ c.pop_front.new.self.items) c.in-Refused.is in
    let way = subst (λ items. AreUnderWay start.rules.value links callers
    (start.first + length c.args.self.now.passes.items) items) is c.requires.stage.under_way in
    stage-refused c.requires.stage is refl way.0.0 way.0.1 back.gives_back (ap (λ left. left.items) back.works)
    back.passes back.ends
