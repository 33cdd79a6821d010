use Rattle.std.proofs.Common.{◌∙◌, subst, sym}
use Rattle.skk_calls.specs.Interactions.{Comes}
use Rattle.session_machine.specs.Replayed.{Replaying, Replays}
use Rattle.session_machine.proofs.Replays.{giving-asks-none, giving-end, kept-asks, kept-ends-not}
use Rattle.session_machine.proofs.replay.Replay.close.Goals as goal

pub returns-in-Giving-clause-next : goal.returns-in-Giving-clause-next
returns-in-Giving-clause-next g c = λ meaning comes.
    let answers = g.N.AnswersName.answers in
    let said = c.self.inside.said in
    let left = c.self.inside.known.left.now in
    sym (giving-asks-none meaning answers said left c.args.end
    (subst (λ stage. Replays answers said left stage) c.in-Giving.is c.self.invariant)
    (subst (λ (r : Replaying). Comes meaning r.said c.args.end) (sym c.self.view_is) comes))

pub returns-in-Giving-clause-end : goal.returns-in-Giving-clause-end
returns-in-Giving-clause-end g c = λ meaning comes.
    let answers = g.N.AnswersName.answers in
    let said = c.self.inside.said in
    let left = c.self.inside.known.left.now in
    c.end_behind.ensures
    ∙ sym (giving-end meaning answers said left c.args.end
    (subst (λ stage. Replays answers said left stage) c.in-Giving.is c.self.invariant)
    (subst (λ (r : Replaying). Comes meaning r.said c.args.end) (sym c.self.view_is) comes))

pub returns-in-Kept-clause-next : goal.returns-in-Kept-clause-next
returns-in-Kept-clause-next g c = λ meaning comes.
    let answers = g.N.AnswersName.answers in
    let said = c.self.inside.said in
    let left = c.self.inside.known.left.now in
    sym (kept-asks meaning answers said left c.in-Kept.call c.args.end
    (subst (λ stage. Replays answers said left stage) c.in-Kept.is c.self.invariant)
    (subst (λ (r : Replaying). Comes meaning r.said c.args.end) (sym c.self.view_is) comes))

pub returns-in-Kept-clause-end : goal.returns-in-Kept-clause-end
returns-in-Kept-clause-end g c = λ meaning comes.
    let answers = g.N.AnswersName.answers in
    let said = c.self.inside.said in
    let left = c.self.inside.known.left.now in
    sym (kept-ends-not meaning answers said left c.in-Kept.call c.args.end
    (subst (λ stage. Replays answers said left stage) c.in-Kept.is c.self.invariant)
    (subst (λ (r : Replaying). Comes meaning r.said c.args.end) (sym c.self.view_is) comes))
