use Rattle.std.proofs.Common.{◌≡◌, ◌++◌, map, take}
use Rattle.std.specs.List.{flat_map}
use Rattle.learn_index.specs.Kept.{numbered}
use Rattle.learned_store.specs.Compacting.{book_records}
use Rattle.learned_store.proofs.compacting.push_books.Given as goal

-- the records of the books so far were added
abbrev pub invariant-loop-book : goal.invariant-loop-book
invariant-loop-book l =
    l.records.items ≡ l.fn.records.items ++ flat_map book_records (map numbered (take l.book-index l.books))
