use Rattle.std.proofs.Common.{◌≡◌, ◌∙◌, ap, sym}
use Rattle.skk_calls.specs.States.{book_count, count_of}
use Rattle.learn_index.specs.Index.{Index}
use Rattle.learn_index.specs.Kept.{kept}
use Rattle.learn_index.proofs.Books.{count_changed}
use Rattle.learn_index.proofs.index.Index.count.Goals as goal
use Rattle.learn_index.proofs.index.Index.count.Goals.{After-book_of}

-- the count among the books that are kept
counted : (c : After-book_of)
    → count_of (kept c.deref.result.now c.self.inside.lists.items) c.args.book
    ≡ count_of c.args.self.now.state c.args.book
counted c =
    let number = c.args.book in
    ap (λ books. count_of (kept books c.self.inside.lists.items) number) c.deref.ensures.value
    ∙ sym (count_changed (kept c.self.inside.books.items c.self.inside.lists.items) c.self.inside.rows
    c.self.invariant number)
    ∙ ap (λ (index : Index). count_of index.state number) c.self.view_is

pub returns-in-Some-clause-value : goal.returns-in-Some-clause-value
returns-in-Some-clause-value c =
    ap book_count c.in-Some.ensures ∙ counted (goal.at.returns-in-Some-clause-value c).After-book_of

pub returns-in-None-clause-value : goal.returns-in-None-clause-value
returns-in-None-clause-value c =
    ap book_count c.in-None.ensures ∙ counted (goal.at.returns-in-None-clause-value c).After-book_of
