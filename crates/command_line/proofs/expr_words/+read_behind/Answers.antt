use Rattle.arrayvec.specs.ArrayVec.{ArrayVec}
use Rattle.std.proofs.Common.{◌≡◌, sym, ◌++◌, ◌∷◌, [], rules}
use Rattle.command_line.specs.declared.expr_words.Term.{Term}
use Rattle.command_line.proofs.ExprWords.{one-more}
use Rattle.command_line.proofs.expr_words.+read_behind.Goals as goal

-- the file of the first two words was added
pub returns-clause-read : goal.returns-clause-read
returns-clause-read t c =
    let front = c.try_push.new.self.items in
    let pushed : front ≡ c.args.terms.items ++ c.in_ok-term.term ∷ [] = search rules in
    one-more (λ (all : ArrayVec Term). all.items) c.read_behind.result c.args.terms.items front c.in_ok-term.term
    c.in-Some.sign.now c.in_ok-name.name.now c.args.words.now c.in-Some.rest.now c.in_ok-name.more.now
    c.in-Some.ensures.cases.0 c.in_ok-name.ensures.cases.0 (sym c.in_ok-term.ensures) pushed c.read_behind.ensures.read
