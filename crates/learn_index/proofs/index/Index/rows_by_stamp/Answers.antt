use Rattle.std.proofs.Common.{◌∙◌, ap, sym}
use Rattle.skk_calls.specs.States.{book_rows, rows_of}
use Rattle.learn_index.specs.Ages.{oldest_first}
use Rattle.learn_index.specs.Index.{Index}
use Rattle.learn_index.specs.Kept.{kept}
use Rattle.learn_index.proofs.Books.{rows_changed}
use Rattle.learn_index.proofs.index.Index.rows_by_stamp.Goals as goal

pub returns-in-Some : goal.returns-in-Some
returns-in-Some c stamps is =
    let number = c.args.number in
    c.by_stamp.ensures stamps is
    ∙ ap oldest_first (ap book_rows c.in-Some.ensures ∙ ap (λ books. rows_of (kept books c.self.inside.lists.items)
    number) c.deref.ensures.value
    ∙ sym (rows_changed (kept c.self.inside.books.items c.self.inside.lists.items) c.self.inside.rows c.self.invariant
    number)
    ∙ ap (λ (index : Index). rows_of index.state number) c.self.view_is)
