-- A book in memory that changes in its place.
use Rattle.std.proofs.Common.{◌≡◌, ◌==◌, ℕ, zero, suc, ◌+◌, ◌^◌, ◌<◌, ◌≤◌, Bool, true, false, cond, ◌||◌, nat_lt}
use Rattle.std.proofs.Common.{Option, None, Some, List, [], ◌∷◌, length, get_or, set, map, find, slice_get, refl, sym}
use Rattle.std.proofs.Common.{ap, ◌∙◌, subst, arith}
use Rattle.std.specs.List.{filter, insert, sum_by}
use Rattle.std.specs.Option.{is_some, option_and_then, option_map}
use Rattle.std.proofs.lemmas.Bool.{and_from, eq-eqb, lt-ltb, or_right}
use Rattle.std.proofs.lemmas.Bool.Decides.{nat_tests}
use Rattle.std.proofs.lemmas.List.{get_or-map, length-map, map-set}
use Rattle.std.proofs.lemmas.List.Sums.{sum_by-cons, sum_by-insert, sum_by-set}
use Rattle.std.proofs.lemmas.Option.{get_or_from_slice_get}
use Rattle.skk_text.specs.Pairs.{all_pairs}
use Rattle.skk_text.specs.FilterLaws.{find-map}
use Rattle.skk_text.specs.PairsLaws.{all_pairs-map}
use Rattle.ordered_lists.specs.KeyOrders.{number_keys}
use Rattle.ordered_lists.specs.Orders.{passes, IsPlace}
use Rattle.ordered_lists.specs.PlaceLaws.{found_put, item_at, point_made, put_insert, put_set}
use Rattle.skk_calls.specs.declared.book.NumberedBook.{NumberedBook}
use Rattle.skk_calls.specs.declared.book_list.TypistList.{TypistList}
use Rattle.skk_calls.specs.Rows.{RowKey, Row}
use Rattle.skk_calls.specs.States.{State, book_rows, rows_of, with_book, with_row, state_with, books_ascend, is_valid}
use Rattle.skk_calls.specs.Tallies.{count_rows}
use Rattle.learn_index.specs.declared.book.LearnedBook.{LearnedBook}
use Rattle.learn_index.specs.Index.{Index, Spare, changes_of, spare_of}
use Rattle.learn_index.specs.Kept.{numbered, kept, has_changed, changed, room_of, spare, keeps_book, IsKept}
use Rattle.learn_index.specs.Records.{state_counted}
use Rattle.learn_index.proofs.Books.{book_changed, kept_with, rows_changed}

-- an index of these books
abbrev pub index_of : State → List LearnedBook → ℕ → Index
index_of state books free = record { state = state; spare = map spare books; spare_lists = free }

-- the book of a number stands at a place
pub record IsAt (items : List LearnedBook) (number place : ℕ) (book : LearnedBook) : Type 0 where
  pub here : slice_get items place ≡ Some book
  pub has : (book.number == number) ≡ true

-- a place where an item passes a test is within the list
pub place_within : {X : Type 0} (p : X → Bool) (xs : List X) (i : ℕ) → passes p (slice_get xs i) ≡ true → i < length xs
place_within p [] i e = cc
place_within p (x ∷ xs) zero e = omega arith
place_within p (x ∷ xs) (suc i) e = let rest = place_within p xs i e in omega (arith, rest)

-- and the item that is read there is the one that does
pub read_at : {X : Type 0} (p : X → Bool) (xs : List X) (i : ℕ) (x : X) → passes p (slice_get xs i) ≡ true
    → x ≡ get_or xs i x → (slice_get xs i ≡ Some x) × (p x ≡ true)
read_at p [] i x e read = cc
read_at p (y ∷ ys) zero x e read = (ap (λ z. Some z) (sym read), ap p read ∙ e)
read_at p (y ∷ ys) (suc i) x e read = read_at p ys i x e read

-- a book that has room is there
pub room_there : (index : Index) (number : ℕ) → 0 < spare_of index number → keeps_book index number ≡ true
room_there index number room = grind arith

-- what is read of items among which one is put
map_insert : {X Y : Type 0} (f : X → Y) (xs : List X) (i : ℕ) (x : X)
    → map f (insert xs i x) ≡ insert (map f xs) i (f x)
map_insert f xs zero x = refl
map_insert f [] (suc i) x = refl
map_insert f (y ∷ ys) (suc i) x = ap (λ zs. f y ∷ zs) (map_insert f ys i x)

-- a filter leaves out an item that is put among others
filter_insert : {X : Type 0} (p : X → Bool) (xs : List X) (i : ℕ) (x : X) → p x ≡ false
    → filter p (insert xs i x) ≡ filter p xs
filter_insert p xs zero x e = ap (λ b. cond b (x ∷ filter p xs) (filter p xs)) e
filter_insert p [] (suc i) x e = ap (λ b. cond b (x ∷ []) []) e
filter_insert p (y ∷ ys) (suc i) x e = ap (λ zs. cond (p y) (y ∷ zs) zs) (filter_insert p ys i x e)

-- an item that is put among others is found, if none is found before
inserted_found : {X : Type 0} (p : X → Bool) (xs : List X) (i : ℕ) (x : X) → p x ≡ true
    → is_some (find p (insert xs i x)) ≡ true
inserted_found p xs zero x e = grind arith
inserted_found p [] (suc i) x e = grind arith
inserted_found p (y ∷ ys) (suc i) x e = grind (arith, inserted_found p ys i x e)

-- what is found first has so much room, or what is found behind it
room_first : (test : Bool) (one other : Spare) (rest : Option Spare) → one.changes ≤ other.changes + 1
    → changes_of (cond test (Some one) rest) ≤ changes_of (cond test (Some other) rest) + 1
room_first true one other rest e = e
room_first false one other rest e = omega arith

room_behind : (test : Bool) (one : Spare) (rest less : Option Spare) → changes_of rest ≤ changes_of less + 1
    → changes_of (cond test (Some one) rest) ≤ changes_of (cond test (Some one) less) + 1
room_behind true one rest less e = omega arith
room_behind false one rest less e = e

-- the room that the book of a number has among books
abbrev pub room_among : ℕ → List LearnedBook → ℕ
room_among number books = changes_of (find (λ (s : Spare). s.number == number) (map spare books))

-- where a book changes in its place and takes the room of one change at most, so does each of the books
module _ (book after : LearnedBook) (same : after.number ≡ book.number) (room : room_of book ≤ room_of after + 1)
    (number : ℕ) where
  pub room_set : (items : List LearnedBook) (place : ℕ) → slice_get items place ≡ Some book
      → room_among number items ≤ room_among number (set items place after) + 1
  room_set [] place here = cc
  room_set (x ∷ xs) zero here =
      let rest = find (λ (s : Spare). s.number == number) (map spare xs) in
      subst (λ (b : LearnedBook). room_among number (b ∷ xs) ≤ room_among number (after ∷ xs) + 1) (sym (the_one here))
      (subst (λ (n : ℕ). changes_of (cond (book.number == number) (Some (spare book)) rest)
      ≤ changes_of (cond (n == number) (Some (spare after)) rest) + 1) (sym same)
      (room_first (book.number == number) (spare book) (spare after) rest room))
    where
      the_one : Some x ≡ Some book → x ≡ book
      the_one e = cc
  room_set (x ∷ xs) (suc i) here =
      room_behind (x.number == number) (spare x) (find (λ (s : Spare). s.number == number) (map spare xs))
      (find (λ (s : Spare). s.number == number) (map spare (set xs i after))) (room_set xs i here)

-- books in memory ascend by their numbers
pub numbers_ascend : (items : List LearnedBook) → books_ascend (map numbered items) ≡ true
    → all_pairs (λ (book other : LearnedBook). nat_lt book.number other.number) items ≡ true
numbers_ascend items ascend =
    sym (all_pairs-map numbered (λ (book other : NumberedBook). nat_lt book.number other.number) items) ∙ ascend

module _ (items : List LearnedBook) (lists : List TypistList) (number place : ℕ)
    (ascend : books_ascend (map numbered items) ≡ true)
    (point : IsPlace (λ (book : LearnedBook). book.number) number_keys number items place) where
  -- the book of the number is the one at the place
  pub found : find (λ (book : LearnedBook). book.number == number) items
      ≡ option_and_then (λ (book : LearnedBook). cond (book.number == number) (Some book) None) (slice_get items place)
  found =
      item_at (λ (book : LearnedBook). book.number) number_keys number items place
      (numbers_ascend items ascend) point

  -- a book that is there stands at the place
  pub stands : (state : State) (free : ℕ) → keeps_book (index_of state items free) number ≡ true
      → passes (λ (book : LearnedBook). book.number == number) (slice_get items place) ≡ true
  stands state free there = grind (arith, found, find-map spare (λ (s : Spare). s.number == number) items)

  -- and is the one that is read there
  pub stands_at : (state : State) (free : ℕ) (book : LearnedBook)
      → keeps_book (index_of state items free) number ≡ true → book ≡ get_or items place book
      → IsAt items number place book
  stands_at state free book there read =
      let both = read_at (λ (b : LearnedBook). b.number == number) items place book (stands state free there) read in
      record { here = both.0; has = both.1 }

  -- a book that stands at the place is there
  pub there_by : (state : State) (free : ℕ) → passes (λ (book : LearnedBook). book.number == number)
      (slice_get items place) ≡ true
      → keeps_book (index_of state items free) number ≡ true
  there_by state free there = grind (arith, found, find-map spare (λ (s : Spare). s.number == number) items)

  -- a book that has not changed, put where its number is not there
  module _ (rows : ℕ) (keeps : IsKept (kept items lists) rows) (new : LearnedBook) (same : new.number ≡ number)
      (unchanged : new.count ≡ 0) (empty : new.rows.items ≡ [])
      (within : place ≤ length items)
      (missing : passes (λ (book : LearnedBook). book.number == number) (slice_get items place) ≡ false) where
    kept_insert : kept (insert items place new) lists
        ≡ record { books = with_book (numbered new) (map numbered items); lists = lists }
    kept_insert =
        let low = point_made numbered (λ (b : NumberedBook). nat_lt b.number number) items place within point in
        ap (λ (books : List NumberedBook). record { books = books; lists = lists })
        (map_insert numbered items place new
        ∙ sym (put_insert (λ (b : NumberedBook). b.number) number_keys (numbered new)
        (map numbered items) place (omega (arith, within, length-map items numbered)) ascend
        (subst (λ (n : ℕ). IsPlace (λ (b : NumberedBook). b.number) number_keys n (map numbered items) place)
        (sym same) low)
        (passed items place missing)))
      where
        passed : (xs : List LearnedBook) (i : ℕ)
            → passes (λ (book : LearnedBook). book.number == number) (slice_get xs i) ≡ false
            → passes (λ (b : NumberedBook). b.number == new.number) (slice_get (map numbered xs) i) ≡ false
        passed [] i e = refl
        passed (x ∷ xs) zero e = ap (λ n. x.number == n) same ∙ e
        passed (x ∷ xs) (suc i) e = passed xs i e

    -- leaves the state
    pub state_insert : changed (kept (insert items place new) lists) ≡ changed (kept items lists)
    state_insert =
        ap (λ (books : List NumberedBook). record { books = filter has_changed books; lists = lists })
        (map_insert numbered items place new)
        ∙ ap (λ (books : List NumberedBook). record { books = books; lists = lists })
        (filter_insert has_changed (map numbered items) place (numbered new) (ap (λ n. nat_lt 0 n) unchanged))

    -- and what is kept
    pub kept_new : number < 2 ^ 16 → IsKept (kept (insert items place new) lists) rows
    kept_new small =
        let none : length new.rows.items ≡ 0 = ap length empty in
        let sum = sum_by-insert (λ (b : NumberedBook). length b.rows) (map numbered items) place (numbered new) in
        let moved = ap (sum_by (λ (b : NumberedBook). length b.rows)) (map_insert numbered items place new) in
        subst (λ (all : State). IsKept all rows) (sym kept_insert)
        (kept_with (kept items lists) rows keeps (numbered new) rows
        (ap (λ n. nat_lt 0 new.count || nat_lt n 1) none ∙ or_right (nat_lt 0 new.count) true refl)
        (and_from (nat_lt new.number (2 ^ 16)) (nat_lt (length new.rows.items) (2 ^ 64))
        (lt-ltb new.number (2 ^ 16) (subst (λ n. n < 2 ^ 16) (sym same) small)) (ap (λ n. nat_lt n (2 ^ 64)) none))
        (ap is_valid (ap changed (sym kept_insert) ∙ state_insert) ∙ keeps.valid)
        (equal none sum moved ∙ ap count_rows kept_insert))
      where
        equal : length new.rows.items ≡ 0
            → sum_by (λ (b : NumberedBook). length b.rows) (insert (map numbered items) place (numbered new))
            ≡ sum_by (λ (b : NumberedBook). length b.rows) (map numbered items) + length new.rows.items
            → sum_by (λ (b : NumberedBook). length b.rows) (map numbered (insert items place new))
            ≡ sum_by (λ (b : NumberedBook). length b.rows) (insert (map numbered items) place (numbered new))
            → rows ≡ count_rows (kept (insert items place new) lists)
        equal none sum moved = omega (arith, keeps.counted, none, sum, moved)

    -- and the book is there
    pub new_there : (state : State) (free : ℕ)
        → keeps_book (index_of state (insert items place new) free) number ≡ true
    new_there state free =
        ap (λ spares. is_some (find (λ s. s.number == number) spares)) (map_insert spare items place new)
        ∙ inserted_found (λ s. s.number == number) (map spare items) place (spare new) (eq-eqb new.number number same)

  module _ (book : LearnedBook) (at : IsAt items number place book) where
    found_here : find (λ (b : LearnedBook). b.number == number) items ≡ Some book
    found_here =
        found ∙ ap (option_and_then (λ (b : LearnedBook). cond (b.number == number) (Some b) None)) at.here
        ∙ ap (λ b. cond b (Some book) None) at.has

    -- its rows
    pub rows_here : rows_of (kept items lists) number ≡ book.rows.items
    rows_here =
        ap book_rows (find-map numbered (λ (b : NumberedBook). b.number == number) items
        ∙ ap (option_map numbered) found_here)

    -- and its room
    pub room_here : (state : State) (free : ℕ) → 0 < spare_of (index_of state items free) number
        → 0 < room_of book
    room_here state free room =
        let same = ap changes_of (find-map spare (λ s. s.number == number) items ∙ ap (option_map spare) found_here) in
        omega (arith, room, same)

    -- what a book with more room leaves as it was
    module _ (after : LearnedBook) (number_same : after.number ≡ book.number) (count_same : after.count ≡ book.count)
        (rows_same : after.rows.items ≡ book.rows.items) where
      pub kept_grown : kept (set items place after) lists ≡ kept items lists
      kept_grown =
          ap (λ (books : List NumberedBook). record { books = books; lists = lists })
          (map-set numbered items place after ∙ ap (set (map numbered items) place) same_numbered
          ∙ set_same items place at.here)
        where
          same_numbered : numbered after ≡ numbered book
          same_numbered =
              ap (λ (n : ℕ). record { number = n; count = after.count; rows = after.rows.items }) number_same
              ∙ ap (λ (n : ℕ). record { number = book.number; count = n; rows = after.rows.items }) count_same
              ∙ ap (λ (rows : List Row). record { number = book.number; count = book.count; rows = rows }) rows_same

          set_same : (xs : List LearnedBook) (i : ℕ) → slice_get xs i ≡ Some book
              → set (map numbered xs) i (numbered book) ≡ map numbered xs
          set_same [] i e = cc
          set_same (x ∷ xs) zero e =
              let one : x ≡ book = cc in ap (λ (b : LearnedBook). numbered b ∷ map numbered xs) (sym one)
          set_same (x ∷ xs) (suc i) e = ap (λ bs. numbered x ∷ bs) (set_same xs i e)

      -- and the room that it has
      pub room_grown : (state : State) (free changes : ℕ) → changes ≤ room_of after
          → changes ≤ spare_of (index_of state (set items place after) free) number
      room_grown state free changes room =
          let within = place_within (λ (b : LearnedBook). b.number == number) items place
          (ap (passes (λ (b : LearnedBook). b.number == number)) at.here ∙ at.has) in
          let there = found_put (λ (b : LearnedBook). b.number) number_keys number after items
          place point within (ap (λ n. n == number) number_same ∙ at.has) in
          let same = ap changes_of
          (find-map spare (λ s. s.number == number) (set items place after) ∙ ap (option_map spare) there) in
          omega (arith, room, same)

    module _ (rows : ℕ) (keeps : IsKept (kept items lists) rows) where
      -- the row count never falls below the rows of the book
      pub rows_below : length book.rows.items ≤ rows
      rows_below =
          let none = counted_nothing in
          omega (arith, keeps.counted, none)
        where
          counted_nothing : length book.rows.items ≤ count_rows (kept items lists)
          counted_nothing = of_book items place at.here
            where
              of_book : (xs : List LearnedBook) (i : ℕ) → slice_get xs i ≡ Some book
                  → length book.rows.items ≤ count_rows (kept xs lists)
              of_book [] i e = cc
              of_book (x ∷ xs) zero e =
                  let one : length x.rows.items ≡ length book.rows.items =
                  ap (λ (b : LearnedBook). length b.rows.items) (the_one e) in
                  let sum = sum_by-cons (λ (b : NumberedBook). length b.rows) (numbered x) (map numbered xs) in
                  omega (arith, one, sum)
                where
                  the_one : Some x ≡ Some book → x ≡ book
                  the_one f = cc
              of_book (x ∷ xs) (suc i) e =
                  let rest = of_book xs i e in
                  let sum = sum_by-cons (λ (b : NumberedBook). length b.rows) (numbered x) (map numbered xs) in
                  omega (arith, rest, sum)

      module _ (after : LearnedBook) (same : after.number ≡ number) where
        -- the books with another in its place
        pub kept_set : kept (set items place after) lists
            ≡ record { books = with_book (numbered after) (map numbered items); lists = lists }
        kept_set =
            let within = place_within (λ (b : LearnedBook). b.number == number) items place
            (ap (passes (λ (b : LearnedBook). b.number == number)) at.here ∙ at.has) in
            let low = point_made numbered (λ (b : NumberedBook). nat_lt b.number number) items place
            (omega (arith, within)) point in
            ap (λ (books : List NumberedBook). record { books = books; lists = lists })
            (map-set numbered items place after
            ∙ sym (put_set (λ (b : NumberedBook). b.number) number_keys (numbered after)
            (map numbered items) place ascend
            (subst (λ (n : ℕ). IsPlace (λ (b : NumberedBook). b.number) number_keys n (map numbered items) place)
            (sym same) low)
            (passed items place at.here)))
          where
            passed : (xs : List LearnedBook) (i : ℕ) → slice_get xs i ≡ Some book
                → passes (λ (b : NumberedBook). b.number == after.number) (slice_get (map numbered xs) i) ≡ true
            passed [] i e = cc
            passed (x ∷ xs) zero e =
                let one : x ≡ book = cc in
                ap (λ (b : LearnedBook). b.number == after.number) one ∙ ap (λ n. book.number == n) same ∙ at.has
            passed (x ∷ xs) (suc i) e = passed xs i e

        -- how many rows there are then
        pub counted_set : count_rows (kept (set items place after) lists) + length book.rows.items
            ≡ count_rows (kept items lists) + length after.rows.items
        counted_set =
            let within = place_within (λ (b : LearnedBook). b.number == number) items place
            (ap (passes (λ (b : LearnedBook). b.number == number)) at.here ∙ at.has) in
            let sum = sum_by-set (λ (b : NumberedBook). length b.rows) (map numbered items) place (numbered after)
            (numbered book) (omega (arith, within, length-map items numbered)) in
            let read = get_or-map numbered items place book (numbered book) within
            ∙ ap numbered (get_or_from_slice_get items place book book at.here) in
            let count = ap (λ (b : NumberedBook). length b.rows) read in
            let moved = ap (sum_by (λ (b : NumberedBook). length b.rows)) (map-set numbered items place after) in
            omega (arith, sum, count, moved)

        module _ (changes : has_changed (numbered after) ≡ true) where
          -- the state with the book changed
          state_set : (left : List Row) → after.rows.items ≡ left
              → changed (kept (set items place after) lists) ≡ record {
                books =
                    with_book (record { number = number; count = after.count; rows = left })
                    (changed (kept items lists)).books;
                lists = lists;
              }
          state_set left e =
              ap changed kept_set ∙ ap (λ (books : List NumberedBook). record { books = books; lists = lists })
              (sym (book_changed (kept items lists) rows keeps (numbered after) changes))
              ∙ ap (λ n. with_left n after.rows.items) same ∙ ap (with_left number) e
            where
              with_left : ℕ → List Row → State
              with_left n rows = record {
                books =
                    with_book (record { number = n; count = after.count; rows = rows })
                    (changed (kept items lists)).books;
                lists = lists;
              }

          -- where a row of it changes
          pub state_row : (key : RowKey) (row : Option Row) → after.rows.items ≡ with_row key row book.rows.items
              → changed (kept (set items place after) lists) ≡ state_with (changed (kept items lists)) number
              after.count key row
          state_row key row e =
              state_set (with_row key row (rows_of (changed (kept items lists)) number))
              (e ∙ ap (with_row key row) (sym (rows_changed (kept items lists) rows keeps number ∙ rows_here)))

          -- and where its count alone does
          pub state_count : after.rows.items ≡ book.rows.items
              → changed (kept (set items place after) lists) ≡ state_counted (changed (kept items lists)) number
              after.count
          state_count e =
              state_set (rows_of (changed (kept items lists)) number)
              (e ∙ sym (rows_changed (kept items lists) rows keeps number ∙ rows_here))
              ∙ sym (ap (λ b. cond b (changed (kept items lists)) counted) (some after.count changes))
            where
              counted : State
              counted = record {
                books = with_book (record {
                  number = number;
                  count = after.count;
                  rows = rows_of (changed (kept items lists)) number;
                }) (changed (kept items lists)).books;
                lists = lists;
              }

              some : (n : ℕ) → nat_lt 0 n ≡ true → (n == 0) ≡ false
              some n f = grind (arith, nat_tests)

          -- what is kept then
          pub kept_after : (count : ℕ) → number < 2 ^ 16 → length after.rows.items < 2 ^ 64
              → count + length book.rows.items ≡ rows + length after.rows.items
              → is_valid (changed (kept (set items place after) lists)) ≡ true
              → IsKept (kept (set items place after) lists) count
          kept_after count small short counted valid =
              let sum = counted_set in
              subst (λ (all : State). IsKept all count) (sym kept_set)
              (kept_with (kept items lists) rows keeps (numbered after) count
              (ap (λ b. b || nat_lt (length after.rows.items) 1) changes)
              (and_from (nat_lt after.number (2 ^ 16)) (nat_lt (length after.rows.items) (2 ^ 64))
              (lt-ltb after.number (2 ^ 16) (subst (λ n. n < 2 ^ 16) (sym same) small))
              (lt-ltb (length after.rows.items) (2 ^ 64) short))
              (ap (λ (all : State). is_valid (changed all)) (sym kept_set) ∙ valid)
              (equal sum ∙ ap count_rows kept_set))
            where
              equal : count_rows (kept (set items place after) lists) + length book.rows.items
                  ≡ count_rows (kept items lists) + length after.rows.items
                  → count ≡ count_rows (kept (set items place after) lists)
              equal sum = omega (arith, keeps.counted, counted, sum)
