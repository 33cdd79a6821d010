use Rattle.std.proofs.Common.{◌≡◌, ◌∙◌, ap, sym}
use Rattle.skk_calls.specs.States.{book_rows, rows_ascend, rows_of}
use Rattle.learn_index.specs.Index.{Index}
use Rattle.learn_index.specs.Kept.{kept}
use Rattle.learn_index.proofs.Books.{rows_changed, rows_in_order}
use Rattle.learn_index.proofs.index.Index.rows_of.Goals as goal
use Rattle.learn_index.proofs.index.Index.rows_of.Goals.{After-book_of}

-- the rows of the book among the books that are kept
same : (c : After-book_of)
    → rows_of (kept c.deref.result.now c.self.inside.lists.items) c.args.number
    ≡ rows_of c.args.self.now.state c.args.number
same c =
    let number = c.args.number in
    ap (λ books. rows_of (kept books c.self.inside.lists.items) number) c.deref.ensures.value
    ∙ sym (rows_changed (kept c.self.inside.books.items c.self.inside.lists.items) c.self.inside.rows c.self.invariant
    number)
    ∙ ap (λ (index : Index). rows_of index.state number) c.self.view_is

pub returns-in-Some-clause-rows : goal.returns-in-Some-clause-rows
returns-in-Some-clause-rows c =
    c.deref-in-Some.ensures.value ∙ ap book_rows c.in-Some.ensures
    ∙ same (goal.at.returns-in-Some-clause-rows c).After-book_of

pub returns-in-Some-clause-ascend : goal.returns-in-Some-clause-ascend
returns-in-Some-clause-ascend c =
    ap rows_ascend
    (c.deref-in-Some.ensures.value ∙ ap book_rows c.in-Some.ensures
    ∙ ap (λ books. rows_of (kept books c.self.inside.lists.items) c.args.number) c.deref.ensures.value)
    ∙ rows_in_order (kept c.self.inside.books.items c.self.inside.lists.items) c.self.inside.rows c.self.invariant
    c.args.number

pub returns-in-None-clause-rows : goal.returns-in-None-clause-rows
returns-in-None-clause-rows c =
    ap book_rows c.in-None.ensures ∙ same (goal.at.returns-in-None-clause-rows c).After-book_of
