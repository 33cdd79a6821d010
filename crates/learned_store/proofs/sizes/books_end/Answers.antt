use Rattle.std.proofs.Common.{◌+◌, List, ◌∙◌, ap, sym}
use Rattle.std.specs.List.{sum_by}
use Rattle.std.proofs.lemmas.List.{take_all}
use Rattle.skk_calls.specs.Histories.{least_end}
use Rattle.learn_index.specs.declared.book.LearnedBook.{LearnedBook}
use Rattle.learn_index.specs.Kept.{numbered}
use Rattle.learned_store.specs.Compacting.{book_need, capped}
use Rattle.learned_store.proofs.BookRecords.{books_tight, sum_more}
use Rattle.learned_store.proofs.sizes.books_end.Goals as goal

pub loop-book-preserved : goal.loop-book-preserved
loop-book-preserved c =
    sum_more (λ (book : LearnedBook). book_need (numbered book)) c.args.books.now c.loop-book.book-index
    c.book-item.result least_end c.loop-book.end c.book_need.result c.saturating_add-end.result c.loop-book-test.true
    c.book-item.is c.loop-book.invariant c.book_need.ensures c.saturating_add-end.ensures

pub returns : goal.returns
returns c =
    c.loop-book.invariant
    ∙ ap (λ (books : List LearnedBook). capped (least_end + sum_by (λ book. book_need (numbered book)) books))
    (take_all c.loop-book.book-index c.args.books.now c.loop-book-test.false)
    ∙ ap capped (sym (books_tight c.args.books.now))
