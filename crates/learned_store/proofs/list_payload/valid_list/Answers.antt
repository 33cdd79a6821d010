use Rattle.std.proofs.Common.{◌≡◌, ℕ, false, Err, None, Some, List, refl, ap, arith}
use Rattle.skk_calls.specs.declared.book_list.BookListFault.{BookListFault}
use Rattle.skk_calls.specs.declared.book_list.BookListFault.TheVariants.{Count, Twice}
use Rattle.skk_calls.specs.BookLists.{has_count, twice_at}
use Rattle.learned_store.specs.Reading.{valid_list}
use Rattle.learned_store.proofs.list_payload.valid_list.Goals as goal

-- numbers for which there is a fault are no list of books
none_valid : (fault : BookListFault) (books : List ℕ)
    → ((count : ℕ) → fault ≡ Count count → has_count books ≡ false)
    → ((at : ℕ) → fault ≡ Twice at → twice_at books ≡ Some at) → None ≡ valid_list books
none_valid (Count count) books counted twice = grind (arith, counted count refl)
none_valid (Twice at) books counted twice = grind (arith, twice at refl)

pub returns-in-Err : goal.returns-in-Err
returns-in-Err c =
    none_valid c.in-Err.field-0 c.args.books.now
    (λ count is. ((c.in-Err.ensures.count count).0 (ap Err is)).0)
    (λ at is. ((c.in-Err.ensures.twice at).0 (ap Err is)).1)
