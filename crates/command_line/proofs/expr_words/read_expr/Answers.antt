use Rattle.std.proofs.Common.{◌≡◌, ◌∙◌, sym, ap, subst, List, ℕ, [], Some}
use Rattle.command_line.specs.Expr.{AreNoneOrBeyond, behind, expr_of, terms_of}
use Rattle.command_line.specs.declared.expr_words.Term.{Term}
use Rattle.command_line.proofs.ExprWords.{behind-first, no-options, options}
use Rattle.command_line.proofs.expr_words.read_expr.Goals as goal

-- no files behind the first, or too many
pub returns-in_err-terms : goal.returns-in_err-terms
returns-in_err-terms c =
    let first = c.in_ok-first.first.now in
    let rest = c.in_ok-first.rest.now in
    c.from_residual-in_err-terms.ensures
    ∙ no-options first (terms_of rest)
    (subst (λ (before : List Term). AreNoneOrBeyond (behind before (terms_of rest))) c.new.ensures
    c.in_err-terms.ensures.read)
    ∙ sym (ap expr_of c.in_ok-first.ensures.cases.0
    ∙ behind-first first rest (sym c.names_file.ensures ∙ c.if-not-names_file.false))

-- the files behind the first
pub returns : goal.returns
returns c =
    let first = c.in_ok-first.first.now in
    let rest = c.in_ok-first.rest.now in
    let terms = c.in_ok-terms.terms.items in
    let are : behind [] (terms_of rest) ≡ Some terms =
    ap (λ (before : List Term). behind before (terms_of rest)) (sym c.new.ensures) ∙ c.in_ok-terms.ensures.read in
    ap (λ (word : List ℕ). Some (record { first = word; terms = record { items = terms } })) c.again.ensures
    ∙ options first (terms_of rest) terms are c.in_ok-terms.ensures.few
    ∙ sym (ap expr_of c.in_ok-first.ensures.cases.0
    ∙ behind-first first rest (sym c.names_file.ensures ∙ c.if-not-names_file.false))
