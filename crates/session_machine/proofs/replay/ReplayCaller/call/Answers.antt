use Rattle.std.proofs.Common.{◌∙◌, ap, subst, sym, [], ◌∷◌, ◌++◌}
use Rattle.session_machine.specs.Replayed.{IsReplay, Replaying}
use Rattle.session_machine.proofs.replay.ReplayCaller.call.Goals as goal

pub invariant_of-self : goal.invariant_of-self
invariant_of-self g c =
    subst (λ said. IsReplay g.N.AnswersName.answers c.answer-answer.new.known said) (sym c.note.ensures)
    (c.answer-answer.ensures.said g.N.AnswersName.answers c.self.inside.said c.self.invariant)

pub returns-clause-said : goal.returns-clause-said
returns-clause-said g c =
    c.note.ensures
    ∙ ap (λ (r : Replaying). r.said ++ (c.args.call.now, c.answer-answer.result) ∷ []) c.self.view_is
