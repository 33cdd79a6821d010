use Rattle.std.proofs.Common.{◌∙◌, ap}
use Rattle.std.proofs.Math.ListN.{drop_of_length-le}
use Rattle.session_machine.specs.Converted.{first_words}
use Rattle.session_machine.proofs.Saying.{says-end, says-none, says-on}
use Rattle.session_machine.proofs.first_words.look_numbers_up.Goals as goal

pub returns-in_err-answer-clause-asked : goal.returns-in_err-answer-clause-asked
returns-in_err-answer-clause-asked g c =
    says-on _ _ c.loop-number.invariant.dialog c.from_residual.result _ _ _ c.loop-number.invariant.goes
    (c.look_number_up.ensures.number ∙ c.loop-number.invariant.number)
    (c.in_err-answer.ensures.err ∙ c.loop-number.invariant.grows)
    (says-none _ c.from_residual.result _ _ c.from_residual.ensures.1)

pub returns-clause-asked : goal.returns-clause-asked
returns-clause-asked g c =
    says-on _ _ c.loop-number.invariant.dialog _ _ _ _ c.loop-number.invariant.goes c.loop-number.invariant.number
    c.loop-number.invariant.grows
    (says-end _ _ _ (ap (first_words c.args.typist c.loop-number.words)
    (drop_of_length-le c.args.numbers.now c.loop-number-test.false)))
