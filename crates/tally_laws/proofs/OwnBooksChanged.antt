-- What own calls leave of the book of their owner, and of the others.
use Rattle.std.proofs.Common.{◌≡◌, ◌∙◌, ap, sym, subst, refl, arith, ℕ, ◌+◌, ◌==◌, Bool, true, false, cond, nat_lt}
use Rattle.std.proofs.Common.{Option, None, Some, List, [], ◌∷◌, find}
use Rattle.std.specs.List.{list_all}
use Rattle.std.proofs.lemmas.Bool.{eq-eqb, eqb-true}
use Rattle.skk_calls.specs.declared.book.NumberedBook.{NumberedBook}
use Rattle.skk_calls.specs.declared.call.Call.{Call}
use Rattle.skk_calls.specs.declared.call.Call.TheVariants.{Lookup, Complete, Learn, Purge, Annotate, Share, Unlearn}
use Rattle.skk_calls.specs.declared.entry.Entry.{Entry}
use Rattle.skk_calls.specs.Dictionary.{after, is_share, moves, state_moved}
use Rattle.skk_calls.specs.Histories.{after_calls, state_after}
use Rattle.skk_calls.specs.Learning.{learnt, purged, annotated, unlearnt}
use Rattle.skk_calls.specs.Openings.{is_reply}
use Rattle.skk_calls.specs.Orders.{insert_by}
use Rattle.skk_calls.specs.Rows.{RowKey, Row}
use Rattle.skk_calls.specs.States.{State, book_at, book_rows, book_count, rows_of, count_of, row_at, with_row}
use Rattle.skk_calls.specs.States.{without_book, state_listed, state_with}
use Rattle.dict_laws.specs.OwnBooks.{owner}
use Rattle.tally_laws.proofs.Parts.{parts}

-- the books of a number among books
abbrev pub books_of : ℕ → List NumberedBook → List NumberedBook
books_of number books = parts (λ (book : NumberedBook). book.number) (λ (book : NumberedBook). book) number books

-- the first of them is the one that is found
abbrev first_of : List NumberedBook → Option NumberedBook
first_of [] = None
first_of (book ∷ books) = Some book

found-first : (books : List NumberedBook) (number : ℕ)
    → find (λ book. book.number == number) books ≡ first_of (books_of number books)
found-first [] number = refl
found-first (book ∷ books) number = grind (arith, found-first books number)

-- a book that is put at its place among others
module _ (before : NumberedBook → NumberedBook → Bool) (book : NumberedBook) (number : ℕ) where
  put-other : (books : List NumberedBook) → (book.number == number) ≡ false
      → books_of number (insert_by before book books) ≡ books_of number books
  put-other [] differs = grind arith
  put-other (first ∷ books) differs = grind (arith, put-other books differs)

  put-own : (books : List NumberedBook) → (book.number == number) ≡ true → books_of number books ≡ []
      → books_of number (insert_by before book books) ≡ book ∷ []
  put-own [] own none = grind arith
  put-own (first ∷ books) own none = grind (arith, put-own books own)

-- books without that of a number
without-own : (books : List NumberedBook) (number : ℕ) → books_of number (without_book number books) ≡ []
without-own [] number = refl
without-own (book ∷ books) number = grind (arith, without-own books number)

without-other : (books : List NumberedBook) (number other : ℕ) → (other == number) ≡ false
    → books_of number (without_book other books) ≡ books_of number books
without-other [] number other differs = refl
without-other (book ∷ books) number other differs = grind (arith, without-other books number other differs)

-- two states have the same of a book
abbrev pub SameBook : ℕ → State → State → Type 0
SameBook number state other = books_of number other.books ≡ books_of number state.books

module _ (number : ℕ) (state other : State) (same : SameBook number state other) where
  same-at : book_at other number ≡ book_at state number
  same-at = found-first other.books number ∙ ap first_of same ∙ sym (found-first state.books number)

  pub same-rows : rows_of other number ≡ rows_of state number
  same-rows = ap book_rows same-at

  pub same-count : count_of other number ≡ count_of state number
  same-count = ap book_count same-at

-- books stand in the order of their numbers
abbrev before : NumberedBook → NumberedBook → Bool
before book other = nat_lt book.number other.number

-- what a change of one row makes of the book of a number
abbrev made : State → ℕ → ℕ → RowKey → Option Row → NumberedBook
made state number count key row =
    record { number = number; count = count; rows = with_row key row (rows_of state number) }

changed-own : (state : State) (number count : ℕ) (key : RowKey) (row : Option Row)
    → books_of number (state_with state number count key row).books ≡ made state number count key row ∷ []
changed-own state number count key row =
    put-own before (made state number count key row) number (without_book number state.books)
    (eq-eqb number number refl) (without-own state.books number)

changed-other : (state : State) (book count : ℕ) (key : RowKey) (row : Option Row) (number : ℕ)
    → (book == number) ≡ false → SameBook number state (state_with state book count key row)
changed-other state book count key row number differs =
    put-other before (made state book count key row) number (without_book book state.books) differs
    ∙ without-other state.books number book differs

-- a call of another's leaves a book as it is
pub others-leave : (state : State) (number : ℕ) (call : Call) → (owner call == number) ≡ false
    → SameBook number state (after state call)
others-leave state number call differs = grind (arith, moved call differs)
  where
    moved : (call : Call) → (owner call == number) ≡ false → SameBook number state (state_moved state call)
    moved (Lookup who key okuri) differs = refl
    moved (Complete who prefix) differs = refl
    moved (Learn book key okuri cand) differs =
        changed-other state book (count_of state book + 1) key
        (Some (learnt (row_at state book key) key okuri cand (count_of state book + 1))) number differs
    moved (Purge book key word) differs =
        changed-other state book (count_of state book + 1) key
        (Some (purged (row_at state book key) key word (count_of state book + 1))) number differs
    moved (Annotate book key cand) differs =
        changed-other state book (count_of state book + 1) key
        (Some (annotated (row_at state book key) key cand (count_of state book + 1))) number differs
    moved (Share who books) differs = refl
    moved (Unlearn learned) differs =
        changed-other state learned.book (count_of state learned.book) learned.key (unlearnt learned) number differs

module _ (state other : State) where
  -- a change of the same book
  both-changed : (number count count' : ℕ) (key : RowKey) (row row' : Option Row) → count' ≡ count → row' ≡ row
      → SameBook number state other
      → SameBook number (state_with state number count key row) (state_with other number count' key row')
  both-changed number count count' key row row' counts rows same =
      changed-own other number count' key row'
      ∙ ap (λ n. made other number n key row' ∷ []) counts
      ∙ ap (λ (r : Option Row). made other number count key r ∷ []) rows
      ∙ ap (λ (rs : List Row). record { number = number; count = count; rows = with_row key row rs } ∷ [])
      (same-rows number state other same)
      ∙ sym (changed-own state number count key row)

  -- whether it moves, and what it makes then
  both-move : (call : Call) → is_share call ≡ false → SameBook (owner call) state other
      → moves other call ≡ moves state call
  both-move (Lookup who key okuri) e same = refl
  both-move (Complete who prefix) e same = refl
  both-move (Learn book key okuri cand) e same =
      rw (same-count book state other same, same-rows book state other same) refl
  both-move (Purge book key word) e same =
      rw (same-count book state other same, same-rows book state other same) refl
  both-move (Annotate book key cand) e same =
      rw (same-count book state other same, same-rows book state other same) refl
  both-move (Share who books) e same = cc
  both-move (Unlearn learned) e same = rw (same-rows learned.book state other same) refl

  both-moved : (call : Call) → is_share call ≡ false → SameBook (owner call) state other
      → SameBook (owner call) (state_moved state call) (state_moved other call)
  both-moved (Lookup who key okuri) e same = same
  both-moved (Complete who prefix) e same = same
  both-moved (Learn book key okuri cand) e same =
      let counts = same-count book state other same in
      let rows = same-rows book state other same in
      both-changed book (count_of state book + 1) (count_of other book + 1) key
      (Some (learnt (row_at state book key) key okuri cand (count_of state book + 1)))
      (Some (learnt (row_at other book key) key okuri cand (count_of other book + 1)))
      (ap (λ n. n + 1) counts) (rw (counts, rows) refl) same
  both-moved (Purge book key word) e same =
      let counts = same-count book state other same in
      let rows = same-rows book state other same in
      both-changed book (count_of state book + 1) (count_of other book + 1) key
      (Some (purged (row_at state book key) key word (count_of state book + 1)))
      (Some (purged (row_at other book key) key word (count_of other book + 1)))
      (ap (λ n. n + 1) counts) (rw (counts, rows) refl) same
  both-moved (Annotate book key cand) e same =
      let counts = same-count book state other same in
      let rows = same-rows book state other same in
      both-changed book (count_of state book + 1) (count_of other book + 1) key
      (Some (annotated (row_at state book key) key cand (count_of state book + 1)))
      (Some (annotated (row_at other book key) key cand (count_of other book + 1)))
      (ap (λ n. n + 1) counts) (rw (counts, rows) refl) same
  both-moved (Share who books) e same = cc
  both-moved (Unlearn learned) e same =
      both-changed learned.book (count_of state learned.book) (count_of other learned.book) learned.key
      (unlearnt learned) (unlearnt learned) (same-count learned.book state other same) refl same

  -- an own call leaves the same of its book in states that have the same of it
  moved-leaves : (call : Call) → is_share call ≡ false → SameBook (owner call) state other
      → SameBook (owner call) (after state call) (after other call)
  moved-leaves call e same = grind (arith, both-move call e same, both-moved call e same)

  -- a list of books leaves each book
  share-leaves : (who : ℕ) (books : List ℕ) → SameBook who state other
      → SameBook who (after state (Share who books)) (after other (Share who books))
  share-leaves who books same = by (moves state (Share who books)) (moves other (Share who books))
    where
      by : (b c : Bool) → SameBook who (cond b (state_listed state who books) state)
          (cond c (state_listed other who books) other)
      by true true = same
      by true false = same
      by false true = same
      by false false = same

  owner-leaves : (call : Call) → SameBook (owner call) state other
      → SameBook (owner call) (after state call) (after other call)
  owner-leaves (Lookup who key okuri) same = same
  owner-leaves (Complete who prefix) same = same
  owner-leaves (Learn book key okuri cand) same = moved-leaves (Learn book key okuri cand) refl same
  owner-leaves (Purge book key word) same = moved-leaves (Purge book key word) refl same
  owner-leaves (Annotate book key cand) same = moved-leaves (Annotate book key cand) refl same
  owner-leaves (Share who books) same = share-leaves who books same
  owner-leaves (Unlearn learned) same = moved-leaves (Unlearn learned) refl same

  pub own-leaves : (number : ℕ) (call : Call) → (owner call == number) ≡ true → SameBook number state other
      → SameBook number (after state call) (after other call)
  own-leaves number call own same =
      let is = eqb-true (owner call) number own in
      subst (λ n. SameBook n (after state call) (after other call)) is
      (owner-leaves call (subst (λ n. SameBook n state other) (sym is) same))

-- the calls of a history that speak of the book of a number
abbrev pub calls_on : ℕ → List Entry → List Call
calls_on number history = parts (λ (entry : Entry). owner entry.call) (λ (entry : Entry). entry.call) number history

-- what a history leaves of a book is what these calls leave of it
pub left-by-calls : (number : ℕ) (state alone : State) (history : List Entry)
    → list_all (λ entry. is_reply entry.answer) history ≡ true → SameBook number alone state
    → SameBook number (after_calls alone (calls_on number history)) (state_after state history)
left-by-calls number state alone [] served same = same
left-by-calls number state alone (entry ∷ history) served same =
    grind (
      arith,
      own-leaves alone state number entry.call,
      others-leave state number entry.call,
      left-by-calls number (after state entry.call) (after alone entry.call) history,
      left-by-calls number (after state entry.call) alone history,
    )
