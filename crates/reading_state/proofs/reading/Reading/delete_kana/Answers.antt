use Rattle.std.proofs.Common.{◌∙◌, Some, sym, ap}
use Rattle.reading_state.proofs.Steps.{kept-shortened}
use Rattle.reading_state.proofs.reading.Reading.delete_kana.Goals as goal
use Rattle.reading_state.proofs.reading.Reading.delete_kana.Goals.{in-Some, in_default}

pub invariant_of-self : goal.invariant_of-self
invariant_of-self c =
    elim c.match-self.branch [
      | in-Some w ↦
          rw (w.self-inside-is, w.delete_last.ensures) (kept-shortened c.self.inside.text c.self.inside.okuri _
          c.self.invariant (w.in-Some.is ∙ ap (λ b. Some b) (sym w.begun.view_is)))
      | in_default w ↦ rw w.self-inside-is c.self.invariant
    ]
