use Rattle.std.proofs.Common.{◌≡◌, ◌+◌, take}
use Rattle.std.specs.List.{sum_by}
use Rattle.skk_calls.specs.Histories.{least_end}
use Rattle.learn_index.specs.Kept.{numbered}
use Rattle.learned_store.specs.Compacting.{book_need, capped}
use Rattle.learned_store.proofs.sizes.books_end.Given as goal

-- what the books so far need was added
abbrev pub invariant-loop-book : goal.invariant-loop-book
invariant-loop-book l =
    l.end ≡ capped (least_end + sum_by (λ book. book_need (numbered book)) (take l.book-index l.books))
