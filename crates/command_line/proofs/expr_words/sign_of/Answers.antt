use Rattle.std.proofs.Common.{sym, ap, codes, refl}
use Rattle.command_line.specs.Expr.{sign_of}
use Rattle.command_line.proofs.ExprWords.{is-other, no-sign}
use Rattle.command_line.proofs.WordTexts.{spelled}
use Rattle.command_line.proofs.expr_words.sign_of.Goals as goal

pub returns-in-text : goal.returns-in-text
returns-in-text c =
    ap sign_of (sym (spelled c.as_str.result.now c.args.word.now (codes "+") c.as_str.ensures c.in-text.is refl))

pub returns-in-text-2 : goal.returns-in-text-2
returns-in-text-2 c =
    ap sign_of (sym (spelled c.as_str.result.now c.args.word.now (codes "-") c.as_str.ensures c.in-text-2.is refl))

pub returns-in_default : goal.returns-in_default
returns-in_default c =
    let bytes = c.as_str.result.now in
    let word = c.args.word.now in
    no-sign word (is-other bytes word (codes "+") c.as_str.utf8 c.as_str.ensures c.in_default.not-text refl)
    (is-other bytes word (codes "-") c.as_str.utf8 c.as_str.ensures c.in_default.not-text-2 refl)
