-- The book of a number that an index finds, and what the index stands for once that book changes in its place.
use Rattle.std.proofs.Common.{◌≡◌, ◌==◌, ℕ, ◌+◌, ◌^◌, ◌<◌, ◌≤◌, true, Option, List, length, get_or, set}
use Rattle.std.proofs.Common.{sym, ap, ◌∙◌, subst, arith}
use Rattle.std.proofs.lemmas.Bool.{eqb-true, lt-ltb}
use Rattle.std.specs.Vec.{vec_len}
use Rattle.ordered_lists.specs.KeyOrders.{number_keys}
use Rattle.ordered_lists.specs.Orders.{IsPlace}
use Rattle.skk_calls.specs.Rows.{RowKey, Row}
use Rattle.skk_calls.specs.declared.book_list.TypistList.{TypistList}
use Rattle.skk_calls.specs.States.{State, with_row, state_with, rows_ascend, is_valid}
use Rattle.learn_index.specs.declared.book.LearnedBook.{LearnedBook}
use Rattle.learn_index.specs.Index.{Index, spare_of}
use Rattle.learn_index.specs.Kept.{kept, changed, room_of, keeps_book, IsKept}
use Rattle.learn_index.specs.Records.{state_counted}
use Rattle.learn_index.proofs.Books.{rows_in_order}
use Rattle.learn_index.proofs.Changes.{IsAt, kept_after, kept_grown, place_within, room_grown, room_here, rows_below}
use Rattle.learn_index.proofs.Changes.{index_of, room_among, room_set, rows_here, stands, stands_at, state_count}
use Rattle.learn_index.proofs.Changes.{state_row}

-- an index keeps these books and counts this many rows, it has the book of a number, and this is its place
pub record HasPlace (items : List LearnedBook) (lists : List TypistList) (rows free : ℕ) (index : Index)
    (number place : ℕ) : Type 0 where
  pub keeps : IsKept (kept items lists) rows
  pub seen : index_of (changed (kept items lists)) items free ≡ index
  pub there : keeps_book index number ≡ true
  pub point : IsPlace (λ (book : LearnedBook). book.number) number_keys number items place

-- and this is the book
pub record HasBook (items : List LearnedBook) (lists : List TypistList) (rows free : ℕ) (index : Index)
    (number place : ℕ) (book : LearnedBook) : Type 0 where
  pub found : HasPlace items lists rows free index number place
  pub at : IsAt items number place book

module _ {items : List LearnedBook} {lists : List TypistList} {rows free : ℕ} {index : Index} {number place : ℕ}
    (found : HasPlace items lists rows free index number place) where
  has_book : keeps_book (index_of (changed (kept items lists)) items free) number ≡ true
  has_book = ap (λ (i : Index). keeps_book i number) found.seen ∙ found.there

  -- the place is one of the books
  pub place_inside : place < length items
  place_inside =
      place_within (λ (book : LearnedBook). book.number == number) items place
      (stands items lists number place found.keeps.ascend found.point (changed (kept items lists)) free has_book)

  -- the book that is read there is that of the number
  pub book_read : {book : LearnedBook} → book ≡ get_or items place book
      → HasBook items lists rows free index number place book
  book_read {book} read = record {
    found = found;
    at = stands_at items lists number place found.keeps.ascend found.point (changed (kept items lists)) free book
        has_book read;
  }

module _ {items : List LearnedBook} {lists : List TypistList} {rows free : ℕ} {index : Index} {number place : ℕ}
    {book : LearnedBook} (has : HasBook items lists rows free index number place book) where
  -- the state of the books is that of the index
  state_seen : changed (kept items lists) ≡ index.state
  state_seen = ap (λ (i : Index). i.state) has.found.seen

  -- the rows of the book ascend
  pub rows_ascend_there : rows_ascend book.rows.items ≡ true
  rows_ascend_there =
      ap rows_ascend (sym (rows_here items lists number place has.found.keeps.ascend has.found.point book has.at))
      ∙ rows_in_order (kept items lists) rows has.found.keeps number

  -- and are among those that are counted
  pub rows_among : vec_len book.rows ≤ rows
  rows_among = omega (
    arith,
    rows_below items lists number place has.found.keeps.ascend has.found.point book has.at rows has.found.keeps,
    book.rows.ok,
  )

  -- it has the room that the index has for it
  pub room_seen : 0 < spare_of index number → 0 < room_of book
  room_seen room =
      room_here items lists number place has.found.keeps.ascend has.found.point book has.at
      (changed (kept items lists)) free
      (subst (λ (i : Index). 0 < spare_of i number) (sym has.found.seen) room)

  -- where it takes the room of one change at most, so does each of the books
  pub room_taken : (after : LearnedBook) → after.number ≡ book.number → room_of book ≤ room_of after + 1
      → (other : ℕ) → spare_of index other ≤ room_among other (set items place after) + 1
  room_taken after same room other =
      subst (λ (i : Index). spare_of i other ≤ room_among other (set items place after) + 1) has.found.seen
      (room_set book after same room other items place has.at.here)

  module _ (after : LearnedBook) (same : after.number ≡ book.number) (counts : 0 < after.count) where
    number_same : after.number ≡ number
    number_same = same ∙ eqb-true book.number number has.at.has

    -- the state where a row of the book changes
    pub row_changed : (key : RowKey) (row : Option Row) → after.rows.items ≡ with_row key row book.rows.items
        → changed (kept (set items place after) lists) ≡ state_with index.state number after.count key row
    row_changed key row rows_are =
        state_row items lists number place has.found.keeps.ascend has.found.point book has.at rows has.found.keeps after
        number_same (lt-ltb 0 after.count counts) key row rows_are
        ∙ ap (λ s. state_with s number after.count key row) state_seen

    -- the state where its count alone does
    pub count_changed : after.rows.items ≡ book.rows.items
        → changed (kept (set items place after) lists) ≡ state_counted index.state number after.count
    count_changed rows_are =
        state_count items lists number place has.found.keeps.ascend has.found.point book has.at rows has.found.keeps
        after
        number_same (lt-ltb 0 after.count counts) rows_are
        ∙ ap (λ s. state_counted s number after.count) state_seen

    -- what is kept then, where the rows of the book are counted anew
    pub kept_changed : {count : ℕ} → number < 2 ^ 16 → count + vec_len book.rows ≡ rows + vec_len after.rows
        → is_valid (changed (kept (set items place after) lists)) ≡ true
        → IsKept (kept (set items place after) lists) count
    kept_changed {count} small counted valid =
        kept_after items lists number place has.found.keeps.ascend has.found.point book has.at rows has.found.keeps
        after
        number_same (lt-ltb 0 after.count counts) count small
        (omega (arith, after.rows.ok)) (omega (arith, counted, book.rows.ok, after.rows.ok)) valid

  module _ (after : LearnedBook) (number_same : after.number ≡ book.number) (count_same : after.count ≡ book.count)
      (rows_same : after.rows.items ≡ book.rows.items) where
    -- the books where that book only gets room are as they were
    books_same : kept (set items place after) lists ≡ kept items lists
    books_same =
        kept_grown items lists number place has.found.keeps.ascend has.found.point book has.at after number_same
        count_same rows_same

    -- so they are kept
    pub kept_same : IsKept (kept (set items place after) lists) rows
    kept_same = subst (λ (all : State). IsKept all rows) (sym books_same) has.found.keeps

    -- the state stays
    pub state_same : changed (kept (set items place after) lists) ≡ index.state
    state_same = ap changed books_same ∙ state_seen

    -- and there is room
    pub room_more : (state : State) (spare_lists changes : ℕ) → changes ≤ room_of after
        → changes ≤ spare_of (index_of state (set items place after) spare_lists) number
    room_more =
        room_grown items lists number place has.found.keeps.ascend has.found.point book has.at after number_same
        count_same rows_same
