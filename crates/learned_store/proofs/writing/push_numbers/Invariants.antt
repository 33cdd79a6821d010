use Rattle.std.proofs.Common.{◌≡◌, ◌++◌, true, take}
use Rattle.std.specs.List.{flat_map, list_all}
use Rattle.learned_store.specs.Payloads.{book_number, is_held}
use Rattle.learned_store.proofs.writing.push_numbers.Given as goal

-- the numbers so far were added
abbrev pub invariant-loop-book : goal.invariant-loop-book
invariant-loop-book l = record {
  bytes : l.bytes.items ≡ l.fn.bytes.items ++ flat_map book_number (take l.book-index l.books);
  held : list_all is_held (take l.book-index l.books) ≡ true;
}
