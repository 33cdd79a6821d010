use Rattle.std.proofs.Common.{◌∙◌, sym}
use Rattle.std.proofs.lemmas.Bool.{eqb-true, eqb-false}
use Rattle.numeric_entries.proofs.Groups.{comma_before, no_comma_before}
use Rattle.numeric_entries.proofs.digits.follows_comma.Goals as goal

pub returns-then-not-is_empty-clause-comma : goal.returns-then-not-is_empty-clause-comma
returns-then-not-is_empty-clause-comma c = λ whole digit.
    comma_before digit c.args.digits.now (eqb-false _ 0 (sym c.is_empty.ensures ∙ c.if-not-is_empty.true))
    (eqb-true _ 0 whole)

pub returns-then-not-is_empty-clause-none : goal.returns-then-not-is_empty-clause-none
returns-then-not-is_empty-clause-none c = λ part digit.
    no_comma_before digit c.args.digits.now (eqb-false _ 0 (sym c.is_empty.ensures ∙ c.if-not-is_empty.true))
    (eqb-false _ 0 part)
