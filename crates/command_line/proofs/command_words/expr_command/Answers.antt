use Rattle.std.proofs.Common.{sym}
use Rattle.command_line.proofs.ExprWords.{other-words, own-words}
use Rattle.command_line.proofs.command_words.expr_command.Goals as goal

pub returns-then-ne-clause-value : goal.returns-then-ne-clause-value
returns-then-ne-clause-value c =
    other-words c.as_str.result.now c.in_ok-first.first.now c.in_ok-first.rest.now c.args.words.now c.ne.result
    c.as_str.utf8 c.as_str.ensures c.in_ok-first.ensures.cases.0 c.ne.ensures c.if-ne.true

pub returns-clause-value : goal.returns-clause-value
returns-clause-value c =
    own-words c.as_str.result.now c.in_ok-first.first.now c.in_ok-first.rest.now c.args.words.now c.ne.result
    c.in_ok-options.options c.as_str.utf8 c.as_str.ensures c.in_ok-first.ensures.cases.0 c.ne.ensures c.if-ne.false
    (sym c.in_ok-options.ensures)
