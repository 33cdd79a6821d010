use Rattle.std.proofs.Common.{◌≡◌, drop, take}
use Rattle.skk_calls.specs.BookLists.{twice_at, twice_behind}
use Rattle.skk_calls.proofs.book_list.first_twice.Given as goal

-- no number so far stands before it too
abbrev pub invariant-loop-at : goal.invariant-loop-at
invariant-loop-at l = twice_at l.books ≡ twice_behind (take l.at l.books) (drop l.at l.books)
