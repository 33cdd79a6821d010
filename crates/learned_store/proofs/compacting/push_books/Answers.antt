use Rattle.learn_index.specs.Kept.{numbered}
use Rattle.learned_store.specs.Compacting.{book_records}
use Rattle.learned_store.proofs.BookRecords.{book_may, piece_added}
use Rattle.learned_store.proofs.compacting.push_books.Goals as goal

pub push_book-requires : goal.push_book-requires
push_book-requires c =
    book_may c.args.books.now c.loop-book.book-index c.book-item.result c.loop-book-test.true c.book-item.is c.requires

pub loop-book-preserved : goal.loop-book-preserved
loop-book-preserved c =
    piece_added numbered book_records c.args.books.now c.loop-book.book-index c.book-item.result
    c.args.records.now.items c.loop-book.records.items c.push_book.new.records.items c.loop-book-test.true
    c.book-item.is c.loop-book.invariant c.in_ok-push_book.ensures
