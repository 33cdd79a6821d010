use Rattle.std.proofs.Common.{◌∙◌, inl, inr, arith}
use Rattle.command_line.proofs.WordTexts.{number-read, number-beyond, no-number}
use Rattle.command_line.proofs.number.number_within.Goals as goal

pub returns-in_err-number : goal.returns-in_err-number
returns-in_err-number c =
    c.from_residual.ensures
    ∙ no-number c.args.text.now c.args.least c.args.most c.utf8.text c.ranges.most.fits c.in_err-number.ensures

pub returns-then-number-least : goal.returns-then-number-least
returns-then-number-least c =
    number-beyond c.args.text.now c.args.least c.args.most c.in_ok-number.number c.in_ok-number.ensures (omega arith)
    (elim c.then-number-least.either [ inl less ↦ inl less | inr more ↦ inr more.1 ])

pub returns : goal.returns
returns c =
    number-read c.args.text.now c.args.least c.args.most c.in_ok-number.number c.in_ok-number.ensures (omega arith)
    c.if-number-least.false c.if-most-number.false
