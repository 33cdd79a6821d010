-- Examples of what is seen of an index, of the calls that it answers and plans, and of the states that are rebuilt.
use Rattle.std.proofs.Common.{◌≡◌, ℕ, true, false, List, [], ◌∷◌, map, codes, refl, sym, ap, None, Some, arith}
use Rattle.std.proofs.lemmas.Bool.{false≢true}
use Rattle.skk_calls.specs.declared.answer.Reply.TheVariants as replies
use Rattle.skk_calls.specs.declared.book.NumberedBook.{NumberedBook}
use Rattle.skk_calls.specs.declared.book_list.TypistList.{TypistList}
use Rattle.skk_calls.specs.declared.call.Call.{Call}
use Rattle.skk_calls.specs.declared.call.Call.TheVariants.{Lookup, Complete, Learn, Purge, Annotate, Share, Unlearn}
use Rattle.skk_calls.specs.declared.part.Part.TheVariants.{Nasi}
use Rattle.skk_calls.specs.Completions.{completions}
use Rattle.skk_calls.specs.Dictionary.{after, moves}
use Rattle.skk_calls.specs.Found.{found}
use Rattle.skk_calls.specs.Rows.{RowKey, Cand, Row}
use Rattle.skk_calls.specs.States.{State, books_read}
use Rattle.learn_index.specs.declared.plan.Plan.{Plan}
use Rattle.learn_index.specs.declared.plan.Plan.TheVariants.{Still, Move, Lists}
use Rattle.learn_index.specs.Index.{Index, spare_of}
use Rattle.learn_index.specs.Kept.{changed, has_changed, has_count, is_held, keeps_book}
use Rattle.learn_index.specs.Plans.{HasRoom, IsMade, IsPlanned, is_question}
use Rattle.learn_index.specs.Records.{state_counted, state_without}

-- a key, and a row of it with a stamp
abbrev key : List ℕ → RowKey
key reading = record { part = Nasi; reading = reading }

abbrev row : List ℕ → ℕ → Row
row reading stamp = record { key = key reading; cands = []; blocks = []; hides = codes "x" ∷ []; stamp = stamp }

-- a call of each kind
abbrev calls : List Call
calls =
    Lookup 1 (key (codes "a")) None ∷ Complete 1 (codes "a")
    ∷ Learn 1 (key (codes "a")) None (record { word = codes "b"; note = [] })
    ∷ Purge 1 (key (codes "a")) (codes "b")
    ∷ Annotate 1 (key (codes "a")) (record { word = codes "b"; note = codes "*c" }) ∷ Share 1 (7 ∷ 0 ∷ [])
    ∷ Unlearn (record { book = 1; key = key (codes "a"); stamp = 2; before = None }) ∷ []

questions : map is_question calls ≡ true ∷ true ∷ false ∷ false ∷ false ∷ false ∷ false ∷ []
questions = refl

-- an index over no changed book that has room for two changes of book 0, for none of book 7, and for one list
abbrev roomy : Index
roomy =
    record {
      state = record { books = []; lists = [] };
      spare =
          record { number = 0; changes = 2 } ∷ record { number = 7; changes = 0 }
          ∷ record { number = 9; changes = 5 } ∷ [];
      spare_lists = 1;
    }

room_of_books : map (spare_of roomy) (0 ∷ 7 ∷ 8 ∷ 9 ∷ []) ≡ 2 ∷ 0 ∷ 0 ∷ 5 ∷ []
room_of_books = refl

books_kept : map (keeps_book roomy) (0 ∷ 7 ∷ 8 ∷ 9 ∷ []) ≡ true ∷ true ∷ false ∷ true ∷ []
books_kept = refl

-- a book
abbrev book : ℕ → ℕ → List Row → NumberedBook
book number count rows = record { number = number; count = count; rows = rows }

-- the list of a typist
abbrev list : ℕ → List ℕ → TypistList
list typist books = record { typist = typist; books = books }

-- the books behind the typist's own with the shared one last, without the shared one, and with the typist's own among
-- them
abbrev some_lists : List TypistList
some_lists = list 1 (7 ∷ 0 ∷ []) ∷ list 2 (5 ∷ 3 ∷ []) ∷ list 4 (7 ∷ 4 ∷ 0 ∷ []) ∷ []

-- the books of a state are those that have changed; one that has not has no row. All lists are of it
changed_books : changed
    (record {
      books = book 0 0 [] ∷ book 1 1 [] ∷ book 2 0 [] ∷ book 3 2 (row (codes "a") 2 ∷ []) ∷ [];
      lists = some_lists;
    })
    ≡ record { books = book 1 1 [] ∷ book 3 2 (row (codes "a") 2 ∷ []) ∷ []; lists = some_lists }
changed_books = refl

books_changed : map has_changed (book 0 0 [] ∷ book 0 1 [] ∷ book 1 0 [] ∷ []) ≡ false ∷ true ∷ false ∷ []
books_changed = refl

counts_of_books : map has_count
    (book 0 0 [] ∷ book 0 1 [] ∷ book 0 1 (row (codes "a") 1 ∷ []) ∷ book 0 0 (row (codes "a") 1 ∷ []) ∷ [])
    ≡ true ∷ true ∷ true ∷ false ∷ []
counts_of_books = refl

numbers_held : map is_held (book 0 0 [] ∷ book 65535 0 [] ∷ book 65536 0 [] ∷ []) ≡ true ∷ true ∷ false ∷ []
numbers_held = refl

-- book 1 has changed twice, and book 3 five times
abbrev two_books : State
two_books =
    record {
      books = book 1 2 (row (codes "b") 2 ∷ []) ∷ book 3 5 (row (codes "a") 4 ∷ row (codes "c") 5 ∷ []) ∷ [];
      lists = some_lists;
    }

-- a count keeps the rows of its book, and 0 leaves no book
states_counted : map (λ (line : ℕ × ℕ). state_counted two_books line.0 line.1)
    ((1, 9) ∷ (2, 1) ∷ (0, 1) ∷ (4, 1) ∷ (2, 0) ∷ []) ≡
    record {
      books = book 1 9 (row (codes "b") 2 ∷ []) ∷ book 3 5 (row (codes "a") 4 ∷ row (codes "c") 5 ∷ []) ∷ [];
      lists = some_lists;
    }
    ∷ record {
      books =
          book 1 2 (row (codes "b") 2 ∷ []) ∷ book 2 1 [] ∷ book 3 5 (row (codes "a") 4 ∷ row (codes "c") 5 ∷ []) ∷ [];
      lists = some_lists;
    }
    ∷ record {
      books =
          book 0 1 [] ∷ book 1 2 (row (codes "b") 2 ∷ []) ∷ book 3 5 (row (codes "a") 4 ∷ row (codes "c") 5 ∷ []) ∷ [];
      lists = some_lists;
    }
    ∷ record {
      books =
          book 1 2 (row (codes "b") 2 ∷ []) ∷ book 3 5 (row (codes "a") 4 ∷ row (codes "c") 5 ∷ []) ∷ book 4 1 [] ∷ [];
      lists = some_lists;
    }
    ∷ two_books ∷ []
states_counted = refl

-- a row that is taken out leaves the others and the count, also where there was none; 0 leaves no book
states_without : map (λ (line : ℕ × ℕ × List ℕ). state_without two_books line.0 line.1 (key line.2))
    ((3, 6, codes "a") ∷ (3, 6, codes "b") ∷ (2, 1, codes "a") ∷ (2, 0, codes "a") ∷ []) ≡
    record { books = book 1 2 (row (codes "b") 2 ∷ []) ∷ book 3 6 (row (codes "c") 5 ∷ []) ∷ []; lists = some_lists }
    ∷ record {
      books = book 1 2 (row (codes "b") 2 ∷ []) ∷ book 3 6 (row (codes "a") 4 ∷ row (codes "c") 5 ∷ []) ∷ [];
      lists = some_lists;
    }
    ∷ record {
      books =
          book 1 2 (row (codes "b") 2 ∷ []) ∷ book 2 1 [] ∷ book 3 5 (row (codes "a") 4 ∷ row (codes "c") 5 ∷ []) ∷ [];
      lists = some_lists;
    }
    ∷ two_books ∷ []
unfolding lib.Utf8.encode
states_without = refl

-- What typists read

-- a candidate without a note, and a row with one candidate and a stamp
abbrev cand : List ℕ → Cand
cand word = record { word = word; note = [] }

abbrev filled : List ℕ → List ℕ → ℕ → Row
filled reading word stamp =
    record { key = key reading; cands = cand word ∷ []; blocks = []; hides = []; stamp = stamp }

-- books with the reading `ab` but for the first typist's, and other readings, of which the later ones are newer
abbrev many_books : State
many_books =
    record {
      books =
          book 0 2 (filled (codes "ab") (codes "0") 1 ∷ filled (codes "ad") (codes "z") 2 ∷ [])
          ∷ book 1 1 (filled (codes "ac") (codes "y") 1 ∷ [])
          ∷ book 3 2 (filled (codes "ab") (codes "3") 1 ∷ filled (codes "af") (codes "x") 2 ∷ [])
          ∷ book 4 1 (filled (codes "ab") (codes "4") 1 ∷ [])
          ∷ book 5 1 (filled (codes "ab") (codes "5") 1 ∷ [])
          ∷ book 7 2 (filled (codes "ab") (codes "7") 1 ∷ filled (codes "ae") (codes "w") 2 ∷ []) ∷ [];
      lists = some_lists;
    }

-- a typist reads the own book first, and no book twice; one without a list reads the shared book behind it
read_by_typists : map (books_read many_books) (0 ∷ 1 ∷ 2 ∷ 4 ∷ 5 ∷ [])
    ≡ (0 ∷ []) ∷ (1 ∷ 7 ∷ 0 ∷ []) ∷ (2 ∷ 5 ∷ 3 ∷ []) ∷ (4 ∷ 7 ∷ 0 ∷ []) ∷ (5 ∷ 0 ∷ []) ∷ []
read_by_typists = refl

-- so what is found comes in the order of these books
found_by_typists : map (λ who. found [] many_books who (key (codes "ab")) None) (0 ∷ 1 ∷ 2 ∷ 4 ∷ 5 ∷ [])
    ≡ (cand (codes "0") ∷ []) ∷ (cand (codes "7") ∷ cand (codes "0") ∷ [])
    ∷ (cand (codes "5") ∷ cand (codes "3") ∷ []) ∷ (cand (codes "4") ∷ cand (codes "7") ∷ cand (codes "0") ∷ [])
    ∷ (cand (codes "5") ∷ cand (codes "0") ∷ []) ∷ []
found_by_typists = refl

-- and so do completions, of which each book gives its newest first
completed_by_typists : map (λ who. completions [] many_books who (codes "a")) (0 ∷ 1 ∷ 2 ∷ 4 ∷ 5 ∷ [])
    ≡ (codes "ad" ∷ codes "ab" ∷ []) ∷ (codes "ac" ∷ codes "ae" ∷ codes "ab" ∷ codes "ad" ∷ [])
    ∷ (codes "ab" ∷ codes "af" ∷ []) ∷ (codes "ab" ∷ codes "ae" ∷ codes "ad" ∷ [])
    ∷ (codes "ab" ∷ codes "ad" ∷ []) ∷ []
unfolding lib.Utf8.encode
completed_by_typists = refl

-- Plans

-- a candidate that is learnt moves the count, and leaves a row with the new stamp
abbrev learnt_b : Plan
learnt_b =
    Move 1 3 (key (codes "a"))
    (Some (record {
      key = key (codes "a");
      cands = record { word = codes "b"; note = [] } ∷ [];
      blocks = [];
      hides = [];
      stamp = 3;
    }))
    (replies.Learned (record { book = 1; key = key (codes "a"); stamp = 3; before = None }))

learning_planned : IsPlanned two_books (Learn 1 (key (codes "a")) None (record { word = codes "b"; note = [] }))
    learnt_b
unfolding lib.Utf8.encode
learning_planned = (refl, refl, refl, refl, refl)

-- what is taken back keeps the count, and leaves the row that was there before
unlearning_planned : IsPlanned two_books
    (Unlearn (record { book = 1; key = key (codes "b"); stamp = 2; before = None }))
    (Move 1 2 (key (codes "b")) None replies.Restored)
unlearning_planned = (refl, refl, refl, refl, refl)

-- what changes nothing is only answered: a word that is hidden already, and a row that was changed since
purging_planned : IsPlanned two_books (Purge 1 (key (codes "b")) (codes "x")) (Still replies.Unchanged)
purging_planned = (refl, refl)

overtaken_planned : IsPlanned two_books
    (Unlearn (record { book = 3; key = key (codes "c"); stamp = 4; before = None })) (Still (replies.Overtaken 5))
overtaken_planned = (refl, refl)

-- a plan of a call that changes something
learning_made : IsMade two_books learnt_b
unfolding lib.Utf8.encode
learning_made =
    (Learn 1 (key (codes "a")) None (record { word = codes "b"; note = [] }), refl, refl, refl, learning_planned)

-- one change has room where there is room for one, and none where there is room for none; what is only answered needs
-- no room
abbrev last_room : Index
last_room = record roomy { spare = record { number = 1; changes = 1 } ∷ record { number = 7; changes = 0 } ∷ [] }

room_for_plan : HasRoom last_room learnt_b
room_for_plan = omega arith

no_room_for_plan : HasRoom last_room (Move 7 3 (key (codes "a")) None replies.Restored) → ⊥
no_room_for_plan room = absurd (omega (arith, room))

no_room_needed : HasRoom last_room (Still replies.Unchanged)
no_room_needed = tt

-- a list that a typist has already is only answered; another one moves, also one of the same books in another order
same_list_planned : IsPlanned many_books (Share 1 (7 ∷ 0 ∷ [])) (Still replies.Unchanged)
same_list_planned = (refl, refl)

shared_planned : IsPlanned many_books (Share 9 (0 ∷ [])) (Still replies.Unchanged)
shared_planned = (refl, refl)

list_planned : IsPlanned many_books (Share 1 (0 ∷ 7 ∷ [])) (Lists 1 (0 ∷ 7 ∷ []) replies.Shared)
list_planned = (refl, refl, refl)

list_made : IsMade many_books (Lists 1 (0 ∷ 7 ∷ []) replies.Shared)
list_made = (Share 1 (0 ∷ 7 ∷ []), refl, refl, refl, list_planned)

-- no other list is left than the one that is given
other_list_planned : IsPlanned many_books (Share 1 (0 ∷ 7 ∷ [])) (Lists 1 (7 ∷ 0 ∷ []) replies.Shared) → ⊥
other_list_planned planned = false≢true (sym (ap (moves many_books) planned.2))

-- it comes in its place among the lists, and that of the shared book alone takes it away
lists_left : map (λ (line : ℕ × List ℕ). (after many_books (Share line.0 line.1)).lists)
    ((1, 0 ∷ 7 ∷ []) ∷ (3, 6 ∷ []) ∷ (2, 0 ∷ []) ∷ [])
    ≡ (list 1 (0 ∷ 7 ∷ []) ∷ list 2 (5 ∷ 3 ∷ []) ∷ list 4 (7 ∷ 4 ∷ 0 ∷ []) ∷ [])
    ∷ (list 1 (7 ∷ 0 ∷ []) ∷ list 2 (5 ∷ 3 ∷ []) ∷ list 3 (6 ∷ []) ∷ list 4 (7 ∷ 4 ∷ 0 ∷ []) ∷ [])
    ∷ (list 1 (7 ∷ 0 ∷ []) ∷ list 4 (7 ∷ 4 ∷ 0 ∷ []) ∷ []) ∷ []
lists_left = refl

-- a list has room where there is room for one more
room_for_list : HasRoom roomy (Lists 1 (0 ∷ 7 ∷ []) replies.Shared)
room_for_list = omega arith

no_room_for_list : HasRoom (record roomy { spare_lists = 0 }) (Lists 1 (0 ∷ 7 ∷ []) replies.Shared) → ⊥
no_room_for_list room = absurd (omega (arith, room))
