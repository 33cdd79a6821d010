-- Lists of books: which numbers are one, which books are read, what a list makes of a state, and what it needs.
use Rattle.std.proofs.Common.{ℕ, true, false, List, [], ◌∷◌, codes, refl, Some, None}
use Rattle.skk_calls.specs.declared.answer.Reply.TheVariants.{Shared, Unchanged, Found}
use Rattle.skk_calls.specs.declared.book_list.TypistList.{TypistList}
use Rattle.skk_calls.specs.declared.call.Call.{Call}
use Rattle.skk_calls.specs.declared.call.Call.TheVariants.{Lookup, Complete, Share}
use Rattle.skk_calls.specs.declared.answer.Reply.TheVariants as replies
use Rattle.skk_calls.specs.BookLists.{is_book_list, twice_at}
use Rattle.skk_calls.specs.Dictionary.{answer, after, is_call, moves}
use Rattle.skk_calls.specs.Found.{found}
use Rattle.skk_calls.specs.Histories.{need, tight}
use Rattle.skk_calls.specs.States.{State, books_read, empty_state, is_valid, shared_books}
use Rattle.skk_calls.proofs.Samples.{Gives, plain, noted, nasi, row, book, books, a, b, c}

-- numbers are a list where there are 1 to 8 of them and none comes twice
lists_of_books : Gives is_book_list (
    ([], false) ∷ (0 ∷ [], true) ∷ (7 ∷ 0 ∷ [], true) ∷ (7 ∷ 7 ∷ [], false) ∷ (1 ∷ 2 ∷ 1 ∷ [], false)
    ∷ (1 ∷ 2 ∷ 3 ∷ 4 ∷ 5 ∷ 6 ∷ 7 ∷ 8 ∷ [], true) ∷ (1 ∷ 2 ∷ 3 ∷ 4 ∷ 5 ∷ 6 ∷ 7 ∷ 8 ∷ 9 ∷ [], false)
    ∷ [])
lists_of_books = refl

-- the first number that came before is told, by its place
twice : Gives twice_at (
    ([], None) ∷ (5 ∷ [], None) ∷ (5 ∷ 5 ∷ [], Some 1) ∷ (1 ∷ 2 ∷ 3 ∷ [], None) ∷ (1 ∷ 2 ∷ 1 ∷ 2 ∷ [], Some 2)
    ∷ (3 ∷ 1 ∷ 2 ∷ 2 ∷ 3 ∷ [], Some 3)
    ∷ [])
twice = refl

-- a typist with a list
abbrev listed : ℕ → List ℕ → TypistList
listed typist numbers = record { typist = typist; books = numbers }

-- typist 1 reads the books 7 and 0, typist 3 the book 2 alone, and typist 5 its own behind 7
abbrev three_lists : List TypistList
three_lists = listed 1 (7 ∷ 0 ∷ []) ∷ listed 3 (2 ∷ []) ∷ listed 5 (7 ∷ 5 ∷ 0 ∷ []) ∷ []

-- the word b stands in book 1, the word c in book 7, and the word a in book 0
abbrev state : State
state = record {
  books =
      book 0 1 (row (nasi a) (plain a ∷ []) [] [] 1 ∷ []) ∷ book 1 1 (row (nasi a) (plain b ∷ []) [] [] 1 ∷ [])
      ∷ book 7 1 (row (nasi a) (plain c ∷ []) [] [] 1 ∷ []) ∷ [];
  lists = three_lists;
}

-- who has no list has the shared book alone
lists_of_typists : Gives (shared_books state)
    ((0, 0 ∷ []) ∷ (1, 7 ∷ 0 ∷ []) ∷ (2, 0 ∷ []) ∷ (3, 2 ∷ []) ∷ (5, 7 ∷ 5 ∷ 0 ∷ []) ∷ [])
lists_of_typists = refl

-- the own book is read first, and once
books_of_typists : Gives (books_read state)
    ((0, 0 ∷ []) ∷ (1, 1 ∷ 7 ∷ 0 ∷ []) ∷ (2, 2 ∷ 0 ∷ []) ∷ (3, 3 ∷ 2 ∷ []) ∷ (5, 5 ∷ 7 ∷ 0 ∷ []) ∷ [])
books_of_typists = refl

-- and what is found comes in that order: the shared book gives nothing where a list lacks it
words_of_typists : Gives (λ who. found [] state who (nasi a) None) (
    (0, plain a ∷ []) ∷ (1, plain b ∷ plain c ∷ plain a ∷ []) ∷ (2, plain a ∷ []) ∷ (3, [])
    ∷ (5, plain c ∷ plain a ∷ []) ∷ (7, plain c ∷ plain a ∷ [])
    ∷ [])
words_of_typists = refl

-- a list is answered, and takes its place among the lists; the shared book alone takes a list away. No count changes
shares : Gives (answer [] state) (
    (Share 1 (7 ∷ 0 ∷ []), Unchanged) ∷ (Share 1 (0 ∷ 7 ∷ []), Shared) ∷ (Share 2 (0 ∷ []), Unchanged)
    ∷ (Share 3 (0 ∷ []), Shared) ∷ (Share 4 (7 ∷ []), Shared)
    ∷ [])
shares = refl

lists_after : Gives (λ call. (after state call).lists) (
    (Share 1 (7 ∷ 0 ∷ []), three_lists) ∷ (Share 2 (0 ∷ []), three_lists)
    ∷ (Share 1 (0 ∷ 7 ∷ []), listed 1 (0 ∷ 7 ∷ []) ∷ listed 3 (2 ∷ []) ∷ listed 5 (7 ∷ 5 ∷ 0 ∷ []) ∷ [])
    ∷ (Share 3 (0 ∷ []), listed 1 (7 ∷ 0 ∷ []) ∷ listed 5 (7 ∷ 5 ∷ 0 ∷ []) ∷ [])
    ∷ (
      Share 4 (7 ∷ []),
      listed 1 (7 ∷ 0 ∷ []) ∷ listed 3 (2 ∷ []) ∷ listed 4 (7 ∷ []) ∷ listed 5 (7 ∷ 5 ∷ 0 ∷ []) ∷ [],
    )
    ∷ [])
lists_after = refl

books_after : Gives (λ call. (after state call).books)
    ((Share 1 (0 ∷ 7 ∷ []), state.books) ∷ (Share 3 (0 ∷ []), state.books) ∷ [])
books_after = refl

-- a valid state has ascending typists, each with a list of books that is another than the shared book alone
valid_lists : Gives (λ lists. is_valid (record empty_state { lists = lists })) (
    ([], true) ∷ (three_lists, true) ∷ (listed 1 (0 ∷ []) ∷ [], false) ∷ (listed 1 [] ∷ [], false)
    ∷ (listed 1 (7 ∷ 7 ∷ []) ∷ [], false) ∷ (listed 0 (7 ∷ []) ∷ [], true)
    ∷ (listed 3 (7 ∷ []) ∷ listed 1 (7 ∷ []) ∷ [], false) ∷ (listed 3 (7 ∷ []) ∷ listed 3 (8 ∷ []) ∷ [], false)
    ∷ [])
valid_lists = refl

-- a list needs 9 bytes and 2 for each book, in a record and in a compacted file
needs : Gives (need state) ((Share 1 (7 ∷ 0 ∷ []), 13) ∷ (Share 2 (7 ∷ []), 11) ∷ [])
needs = refl

tight_ends : Gives (λ lists. tight (record empty_state { lists = lists }))
    (([], 18) ∷ (listed 1 (7 ∷ 0 ∷ []) ∷ [], 31) ∷ (three_lists, 57) ∷ [])
tight_ends = refl

calls : Gives is_call ((Share 1 [], false) ∷ (Share 1 (7 ∷ []), true) ∷ (Share 1 (7 ∷ 7 ∷ []), false) ∷ [])
calls = refl
