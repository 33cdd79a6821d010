-- Valid states with the same counts, the same rows and the same lists are one.
use Rattle.std.proofs.Common.{◌≡◌, ℕ, ◌==◌, ◌&&◌, true, false, cond, not, Option, None, Some}
use Rattle.std.proofs.Common.{List, [], ◌∷◌, refl, sym, ap, ◌∙◌, arith}
use Rattle.std.proofs.lemmas.Bool.{and_parts, eqb-true, not_from_false}
use Rattle.std.specs.List.{list_all}
use Rattle.skk_text.specs.FilterLaws.{find_none, find_passes, list_all_found}
use Rattle.skk_text.specs.Pairs.{all_pairs}
use Rattle.skk_text.specs.PairsLaws.{list_all-weaker}
use Rattle.ordered_lists.specs.KeyOrders.{number_keys}
use Rattle.ordered_lists.specs.OrderLaws.{greater_differs}
use Rattle.ordered_lists.specs.Orders.{Order, ascend, before, item_of}
use Rattle.skk_calls.specs.declared.book.NumberedBook.{NumberedBook}
use Rattle.skk_calls.specs.declared.book_list.TypistList.{TypistList}
use Rattle.skk_calls.specs.BookLists.{is_book_list, same_numbers, shared_alone}
use Rattle.skk_calls.specs.OrderLaws.{row_keys}
use Rattle.skk_calls.specs.Rows.{RowKey, Row}
use Rattle.skk_calls.specs.States.{State, book_at, book_rows, book_count, rows_of, count_of, row_at}
use Rattle.skk_calls.specs.States.{is_kept_list, is_valid, list_in, listed_books, lists_ascend}
use Rattle.skk_calls.specs.States.{shared_books}
use Rattle.dict_laws.specs.ValidStates.{parts_at, rows_of_ascend, valid_parts}

-- Items

module _ {X K : Type 0} (key : X → K) (keys : Order K) where
  -- a key is itself
  itself : (k : K) → keys.same k k ≡ true
  itself k = grind (arith, keys.apart k k, keys.irreflexive k)

  -- the first of ascending items is the only one of its key
  none_behind : (x : X) (xs : List X) → list_all (before key keys x) xs ≡ true → item_of key keys (key x) xs ≡ None
  none_behind x xs above =
      find_none (λ y. keys.same (key y) (key x)) xs
      (list_all-weaker (before key keys x) (λ y. not (keys.same (key y) (key x)))
      (λ y less. not_from_false (keys.same (key y) (key x)) (greater_differs keys (key x) (key y) less)) xs above)

  -- an item that is found by its key is the first, or greater
  first_or_greater : (x y : X) (ys : List X) → list_all (before key keys y) ys ≡ true
      → item_of key keys (key x) (y ∷ ys) ≡ Some x → keys.less (key y) (key x) ≡ false → y ≡ x
  first_or_greater x y ys above found least =
      grind (arith, list_all_found (before key keys y) (λ z. keys.same (key z) (key x)) ys x above)

  -- of two lists with one item of each key the first items are one
  same_first : (x y : X) (xs ys : List X) → list_all (before key keys x) xs ≡ true
      → list_all (before key keys y) ys ≡ true
      → ((k : K) → item_of key keys k (x ∷ xs) ≡ item_of key keys k (y ∷ ys)) → x ≡ y
  same_first x y xs ys above_x above_y same =
      grind (
        arith,
        first_or_greater x y ys above_y,
        first_or_greater y x xs above_x,
        same (key x),
        same (key y),
        itself (key x),
        itself (key y),
        keys.transitive (key x) (key y) (key x),
        keys.irreflexive (key x),
      )

  -- ascending lists with one item of each key are one
  pub same_list : (xs ys : List X) → ascend key keys xs ≡ true → ascend key keys ys ≡ true
      → ((k : K) → item_of key keys k xs ≡ item_of key keys k ys) → xs ≡ ys
  same_list [] [] pairs others same = refl
  same_list [] (y ∷ ys) pairs others same = absurd (grind (arith, itself (key y), same (key y)))
  same_list (x ∷ xs) [] pairs others same = absurd (grind (arith, itself (key x), same (key x)))
  same_list (x ∷ xs) (y ∷ ys) pairs others same =
      let own = and_parts (list_all (before key keys x) xs) (all_pairs (before key keys) xs) pairs in
      let other = and_parts (list_all (before key keys y) ys) (all_pairs (before key keys) ys) others in
      let first = same_first x y xs ys own.0 other.0 same in
      let rest =
      same_list xs ys own.1 other.1
      (λ k. grind (
        arith,
        first,
        same k,
        keys.equal (key x) k,
        none_behind x xs own.0,
        none_behind y ys other.0,
      )) in
      ap (λ z. z ∷ xs) first ∙ ap (λ zs. y ∷ zs) rest

-- States

-- a book of a valid state is known by its count and its rows
abbrev book_of_parts : ℕ → ℕ → List Row → Option NumberedBook
book_of_parts number count rows =
    cond (count == 0) None (Some (record { number = number; count = count; rows = rows }))

module _ (state : State) (number : ℕ) (valid : is_valid state ≡ true) where
  book_known : book_at state number ≡ book_of_parts number (count_of state number) (rows_of state number)
  book_known = by (book_at state number) refl
    where
      by : (found : Option NumberedBook) → book_at state number ≡ found
          → found ≡ book_of_parts number (book_count found) (book_rows found)
      by None is = refl
      by (Some book) is =
          grind (
            arith,
            find_passes (λ (b : NumberedBook). b.number == number) state.books book is,
            (parts_at state number valid book is).count,
          )

-- the lists of a valid state ascend, and each of them is kept
lists_parts : (state : State) → is_valid state ≡ true
    → (lists_ascend state.lists ≡ true) × (list_all is_kept_list state.lists ≡ true)
lists_parts state valid =
    and_parts (lists_ascend state.lists) (list_all is_kept_list state.lists) (valid_parts state valid).lists

-- a list of a valid state is known by the books that its typist is said to have
abbrev list_of_books : ℕ → List ℕ → Option TypistList
list_of_books typist books =
    cond (same_numbers books shared_alone) None (Some (record { typist = typist; books = books }))

list_known : (state : State) (typist : ℕ) → is_valid state ≡ true
    → list_in typist state.lists ≡ list_of_books typist (shared_books state typist)
list_known state typist valid = by (list_in typist state.lists) refl
  where
    by : (found : Option TypistList) → list_in typist state.lists ≡ found
        → found ≡ list_of_books typist (listed_books found)
    by None is = refl
    by (Some list) is =
        let kept =
        list_all_found is_kept_list (λ (l : TypistList). l.typist == typist) state.lists list
        (lists_parts state valid).1 is in
        let other = (and_parts (is_book_list list.books) (not (same_numbers list.books shared_alone)) kept).1 in
        let own =
        eqb-true list.typist typist (find_passes (λ (l : TypistList). l.typist == typist) state.lists list is) in
        grind (arith, other, own)

module _ (state other : State) (valid : is_valid state ≡ true) (later : is_valid other ≡ true)
    (counts : (number : ℕ) → count_of state number ≡ count_of other number)
    (rows : (number : ℕ) (key : RowKey) → row_at state number key ≡ row_at other number key)
    (lists : (typist : ℕ) → shared_books state typist ≡ shared_books other typist) where
  same_rows : (number : ℕ) → rows_of state number ≡ rows_of other number
  same_rows number =
      same_list (λ (row : Row). row.key) row_keys (rows_of state number) (rows_of other number)
      (rows_of_ascend state number valid) (rows_of_ascend other number later) (rows number)

  same_book : (number : ℕ) → book_at state number ≡ book_at other number
  same_book number =
      grind (
        arith,
        book_known state number valid,
        counts number,
        same_rows number,
        book_known other number later,
      )

  same_typist : (typist : ℕ) → list_in typist state.lists ≡ list_in typist other.lists
  same_typist typist =
      list_known state typist valid ∙ ap (list_of_books typist) (lists typist) ∙ sym (list_known other typist later)

  pub same_state : state ≡ other
  same_state =
      ap (λ (books : List NumberedBook). in_state books state.lists)
      (same_list (λ (book : NumberedBook). book.number) number_keys state.books other.books
      (valid_parts state valid).ascend (valid_parts other later).ascend same_book)
      ∙ ap (λ (own : List TypistList). in_state other.books own)
      (same_list (λ (list : TypistList). list.typist) number_keys state.lists other.lists
      (lists_parts state valid).0 (lists_parts other later).0 same_typist)
    where
      in_state : List NumberedBook → List TypistList → State
      in_state books own = record { books = books; lists = own }
