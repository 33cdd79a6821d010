-- What the records of a compaction need is the least that any records of their state need.
use Rattle.std.proofs.Common.{◌≡◌, ℕ, ◌+◌, ◌≤◌, Bool, true, false, cond, not, ◌==◌, nat_lt, Option, None, Some, List}
use Rattle.std.proofs.Common.{[], ◌∷◌, map, length, refl, sym, ap, ◌∙◌, subst, arith, length-append}
use Rattle.std.specs.List.{filter, flat_map, sum_by}
use Rattle.std.proofs.lemmas.List.{map-append}
use Rattle.std.proofs.lemmas.List.Sorted.{sum_by-IsPermutation}
use Rattle.std.proofs.lemmas.List.Sums.{sum_by-append, sum_by-cons}
use Rattle.ordered_lists.specs.OrderLaws.{insert_moves}
use Rattle.ordered_lists.specs.Orders.{insert_by}
use Rattle.skk_calls.specs.declared.book.NumberedBook.{NumberedBook}
use Rattle.skk_calls.specs.declared.book_list.TypistList.{TypistList}
use Rattle.skk_calls.specs.BookLists.{same_numbers, shared_alone}
use Rattle.skk_calls.specs.declared.call.Call.{Call}
use Rattle.skk_calls.specs.declared.call.Call.TheVariants.{Lookup, Complete, Learn, Purge, Annotate, Share, Unlearn}
use Rattle.skk_calls.specs.Dictionary.{after, moves, state_moved}
use Rattle.skk_text.specs.Text.{byte_len}
use Rattle.skk_text.specs.TextLaws.{byte_len-append}
use Rattle.skk_calls.specs.Canonical.{item}
use Rattle.skk_calls.specs.Histories.{put_need, restored_need, note_need, annotated_need, need, count_need}
use Rattle.skk_calls.specs.Histories.{list_need, rows_need, tight}
use Rattle.skk_calls.specs.KeyLaws.{same_key_equal}
use Rattle.skk_calls.specs.Learning.{annotated}
use Rattle.skk_calls.specs.Orders.{key_less}
use Rattle.skk_calls.specs.Rows.{RowKey, Cand, Row, same_key}
use Rattle.skk_calls.specs.States.{State, empty_state, row_in, rows_of, row_at, count_of, without_row, with_row}
use Rattle.skk_calls.specs.States.{without_book, with_book, state_with, state_listed, without_list}
use Rattle.dict_laws.specs.ChangedStates.{has_key, row_in_has_key}
use Rattle.skk_journal.specs.Contents.{Contents}
use Rattle.skk_journal.specs.RecordLaws.{length-record_bytes, need_is}
use Rattle.skk_journal.specs.Records.{record_bytes, framed, end_of, need as record_need}
use Rattle.learned_store.specs.declared.form.PayloadForm.{PayloadForm}
use Rattle.learned_store.specs.declared.form.PayloadForm.TheVariants.{Put, Drop, SetCount, Note, SetList}
use Rattle.learned_store.specs.Payloads.{count_bytes, may_follow, payload_of, state_told, takes_note}
use Rattle.learned_store.specs.Recovered.{Leads, Leave}
use Rattle.learned_store.specs.Compacted.{row_forms, book_forms, list_form, compacted}
use Rattle.learned_store.proofs.Needs.{put_needs, drop_needs, counted_long, list_needs, note_needs}
use Rattle.learned_store.proofs.RowGrowth.{annotated_most}

-- Sums

module _ {X : Type 0} (f : X → ℕ) where
  -- the sum over items with one more at its place
  sum_by-insert_by : (before : X → X → Bool) (x : X) (xs : List X)
      → sum_by f (insert_by before x xs) ≡ f x + sum_by f xs
  sum_by-insert_by before x xs =
      sum_by-IsPermutation f (x ∷ xs) (insert_by before x xs) (insert_moves before x xs) ∙ sum_by-cons f x xs

  -- items that are left out add nothing
  sum_by-filter : (p : X → Bool) (xs : List X) → sum_by f (filter p xs) ≤ sum_by f xs
  sum_by-filter p [] = omega arith
  sum_by-filter p (x ∷ xs) =
      grind (arith, sum_by-cons f x xs, sum_by-cons f x (filter p xs), sum_by-filter p xs)

-- Rows

slash : byte_len (0x2F ∷ []) ≡ 1
unfolding lib.Utf8.encode
slash = refl

-- the rows of a book need no more than its records, and those at most a count more
rows_least : (rows : List Row) → sum_by put_need rows ≤ rows_need rows
rows_least [] = omega arith
rows_least (row ∷ rows) = omega arith

rows_most : (rows : List Row) → rows_need rows ≤ count_need + sum_by put_need rows
rows_most [] = omega arith
rows_most (row ∷ rows) = omega arith

-- a book with a row has a record for each of its rows
some_rows : (before : Row → Row → Bool) (row : Row) (rows : List Row)
    → rows_need (insert_by before row rows) ≡ sum_by put_need (insert_by before row rows)
some_rows before row [] = refl
some_rows before row (r ∷ rows) = grind arith

-- rows where a key has this row now, or none, need at most so much more
rows_with : (key : RowKey) (row : Option Row) (rows : List Row)
    → rows_need (with_row key row rows) ≤ restored_need key row + sum_by put_need rows
rows_with key None rows =
    let kept = without_row key rows in
    omega (arith, rows_most kept, sum_by-filter put_need (λ (r : Row). not (same_key r.key key)) rows)
rows_with key (Some row) rows =
    let less = λ (r other : Row). key_less r.key other.key in
    let kept = without_row key rows in
    omega (
      arith,
      some_rows less row kept,
      sum_by-insert_by put_need less row kept,
      sum_by-filter put_need (λ (r : Row). not (same_key r.key key)) rows,
    )

-- Books

-- a state with a book in the place of that of its number
abbrev with_it : State → NumberedBook → State
with_it state book = record state { books = with_book book state.books }

-- the books without that of a number need so much less as its rows do
apart : (number : ℕ) (books : List NumberedBook)
    → sum_by (λ book. rows_need book.rows) (without_book number books)
    + sum_by put_need (rows_of (record { books = books; lists = [] }) number)
    ≤ sum_by (λ book. rows_need book.rows) books
apart number [] = omega arith
apart number (book ∷ books) =
    let f = λ (b : NumberedBook). rows_need b.rows in
    grind (
      arith,
      apart number books,
      rows_least book.rows,
      sum_by-cons f book books,
      sum_by-cons f book (without_book number books),
      sum_by-filter f (λ (b : NumberedBook). not (b.number == number)) books,
    )

-- where the rows of a book need at most so much more than those before, so does the state
replaced : (state : State) (number count more : ℕ) (rows : List Row)
    → rows_need rows ≤ more + sum_by put_need (rows_of state number)
    → tight (with_it state (record { number = number; count = count; rows = rows })) ≤ tight state + more
replaced state number count more rows most =
    omega (
      arith,
      most,
      apart number state.books,
      sum_by-insert_by (λ (b : NumberedBook). rows_need b.rows)
          (λ (b other : NumberedBook). nat_lt b.number other.number)
          (record { number = number; count = count; rows = rows }) (without_book number state.books),
    )

-- so does one where a key has this row now, or none
row_changed : (state : State) (number count : ℕ) (key : RowKey) (row : Option Row)
    → tight (state_with state number count key row) ≤ tight state + restored_need key row
row_changed state number count key row =
    replaced state number count (restored_need key row) (with_row key row (rows_of state number))
    (rows_with key row (rows_of state number))

-- rows without those of a key need so much less as the one that is found does
apart_row : (key : RowKey) (rows : List Row) (row : Row) → row_in key rows ≡ Some row
    → sum_by put_need (without_row key rows) + put_need row ≤ sum_by put_need rows
apart_row key [] row found = cc
apart_row key (first ∷ rows) row found =
    by (same_key first.key key) refl (apart_row key rows row) found
  where
    by : (b : Bool) → same_key first.key key ≡ b
        → (row_in key rows ≡ Some row → sum_by put_need (without_row key rows) + put_need row ≤ sum_by put_need rows)
        → cond b (Some first) (row_in key rows) ≡ Some row
        → sum_by put_need (without_row key (first ∷ rows)) + put_need row ≤ sum_by put_need (first ∷ rows)
    by true e rest is =
        let same : first ≡ row = cc in
        grind (
          arith,
          e,
          same,
          sum_by-cons put_need first rows,
          sum_by-filter put_need (λ (r : Row). not (same_key r.key key)) rows,
        )
    by false e rest is =
        grind (
          arith,
          e,
          rest is,
          sum_by-cons put_need first rows,
          sum_by-cons put_need first (without_row key rows),
        )

-- a row that took a note needs at most so much more as the note's record does
noted_more : (key : RowKey) (cand : Cand) (stamp : ℕ) (row : Row) → row.key ≡ key
    → put_need (annotated (Some row) key cand stamp) ≤ put_need row + note_need key cand
noted_more key cand stamp row same =
    let most = annotated_most row cand stamp in
    let at : put_need (annotated (Some row) key cand stamp) ≡ put_need (annotated (Some row) row.key cand stamp) =
    ap (λ (k : RowKey). put_need (annotated (Some row) k cand stamp)) (sym same) in
    omega (arith, at, most, byte_len-append (item cand) (0x2F ∷ []), slash)

-- so does a state where a row of it took one
note_changed : (state : State) (number count stamp : ℕ) (key : RowKey) (cand : Cand) (found : Option Row) (row : Row)
    → found ≡ Some row → row_in key (rows_of state number) ≡ found
    → tight (state_with state number count key (Some (annotated found key cand stamp)))
    ≤ tight state + note_need key cand
note_changed state number count stamp key cand found row is at =
    let keyed : row.key ≡ key =
    same_key_equal row.key key (subst (λ (r : Option Row). has_key key r ≡ true) (at ∙ is)
    (row_in_has_key key (rows_of state number))) in
    let new : Row = annotated (Some row) key cand stamp in
    let less = λ (r other : Row). key_less r.key other.key in
    let kept = without_row key (rows_of state number) in
    subst (λ (r : Option Row). tight (state_with state number count key (Some (annotated r key cand stamp)))
    ≤ tight state + note_need key cand) (sym is)
    (replaced state number count (note_need key cand) (with_row key (Some new) (rows_of state number))
    (omega (
      arith,
      some_rows less new kept,
      sum_by-insert_by put_need less new kept,
      apart_row key (rows_of state number) row (at ∙ is),
      noted_more key cand stamp row keyed,
    )))

-- an annotation needs what it makes the tight end greater
annotated_changed : (state : State) (number count : ℕ) (key : RowKey) (cand : Cand) (found : Option Row)
    → row_in key (rows_of state number) ≡ found
    → tight (state_with state number count key (Some (annotated found key cand count)))
    ≤ tight state + annotated_need found key cand count
annotated_changed state number count key cand None at = row_changed state number count key (Some _)
annotated_changed state number count key cand (Some row) at =
    note_changed state number count count key cand (Some row) row refl at

-- a state where a typist was given a list needs at most so much more as the list does
listed_most : (state : State) (typist : ℕ) (books : List ℕ)
    → tight (state_listed state typist books) ≤ tight state + list_need books
listed_most state typist books = by (same_numbers books shared_alone)
  where
    f : TypistList → ℕ
    f list = list_need list.books

    others : List TypistList
    others = without_list typist state.lists

    less : TypistList → TypistList → Bool
    less list other = nat_lt list.typist other.typist

    given : TypistList
    given = record { typist = typist; books = books }

    fewer : sum_by f others ≤ sum_by f state.lists
    fewer = sum_by-filter f (λ (l : TypistList). not (l.typist == typist)) state.lists

    by : (b : Bool) → tight (record state { lists = cond b others (insert_by less given others) })
        ≤ tight state + list_need books
    by true = omega (arith, fewer)
    by false = omega (arith, fewer, sum_by-insert_by f less given others)

-- a change makes the tight end at most so much greater as it needs
moved_most : (state : State) (call : Call) → tight (state_moved state call) ≤ tight state + need state call
moved_most state (Lookup who key okuri) = omega arith
moved_most state (Complete who prefix) = omega arith
moved_most state (Learn book key okuri cand) = row_changed state book _ key (Some _)
moved_most state (Purge book key word) = row_changed state book _ key (Some _)
moved_most state (Annotate book key cand) =
    annotated_changed state book (count_of state book + 1) key cand (row_at state book key) refl
moved_most state (Share who books) = listed_most state who books
moved_most state (Unlearn learned) = row_changed state learned.book _ learned.key learned.before

pub after_most : (state : State) (call : Call) → tight (after state call) ≤ tight state + need state call
after_most state call = by (moves state call) (moved_most state call)
  where
    by : (b : Bool) → tight (state_moved state call) ≤ tight state + need state call
        → tight (cond b (state_moved state call) state) ≤ tight state + need state call
    by true most = most
    by false most = omega arith

-- Records

-- the end of a file with records is that of one without, and what each of them needs
framed_needs : (records : List (List ℕ)) → length (framed records) ≡ sum_by record_need records
framed_needs [] = refl
framed_needs (payload ∷ records) =
    omega (
      arith,
      length-append (record_bytes payload) (framed records),
      length-record_bytes payload,
      need_is payload,
      framed_needs records,
      sum_by-cons record_need payload records,
    )

-- the record of a count needs 16 bytes
count_needs : (book count : ℕ) → count_need ≡ record_need (count_bytes book count)
count_needs book count = omega (arith, need_is (count_bytes book count), counted_long book count)

-- a record makes the tight end at most so much greater as it needs
told_most : (state : State) (form : PayloadForm) → may_follow state form ≡ true
    → tight (state_told state form) ≤ tight state + record_need (payload_of form)
told_most state (Put book count row) follows =
    omega (arith, put_needs book count row, row_changed state book count row.key (Some row))
told_most state (Drop book count key) follows = by (count == 0)
  where
    by : (b : Bool) → tight (cond b state (state_with state book count key None))
        ≤ tight state + record_need (payload_of (Drop book count key))
    by true = omega arith
    by false = omega (arith, drop_needs book count key, row_changed state book count key None)
told_most state (SetCount book count) follows = by (count == 0)
  where
    by : (b : Bool)
        → tight (cond b state (with_it state (record { number = book; count = count; rows = rows_of state book })))
        ≤ tight state + record_need (payload_of (SetCount book count))
    by true = omega arith
    by false =
        omega (
          arith,
          count_needs book count,
          replaced state book count count_need (rows_of state book) (rows_most (rows_of state book)),
        )
told_most state (Note book count key cand) follows =
    omega (
      arith,
      note_needs book count key cand,
      taken (row_at state book key) refl follows,
    )
  where
    taken : (found : Option Row) → row_at state book key ≡ found → takes_note found cand count ≡ true
        → tight (state_told state (Note book count key cand)) ≤ tight state + note_need key cand
    taken None at takes = cc
    taken (Some row) at takes =
        note_changed state book count count key cand (row_at state book key) row at refl
told_most state (SetList typist books) follows =
    omega (arith, list_needs typist books, listed_most state typist books)

led_most : (version : ℕ) (start after : State) (records : List (List ℕ)) → Leads version start records after
    → tight after ≤ tight start + sum_by record_need records
led_most version start after [] is = omega (arith, ap tight is)
led_most version start after (payload ∷ records) (form, says, leads) =
    omega (
      arith,
      told_most start form says.follows,
      ap record_need says.is,
      led_most version (state_told start form) after records leads,
      sum_by-cons record_need payload records,
    )

-- no records leave a state whose tight end is behind theirs
pub tight_least : (contents : Contents) (state : State) → Leave contents state
    → tight state ≤ end_of contents.records
tight_least contents state leave =
    omega (
      arith,
      led_most contents.version empty_state state contents.records leave,
      framed_needs contents.records,
    )

-- Compacted records

rows_put : (number count : ℕ) (rows : List Row)
    → sum_by record_need (map payload_of (map (Put number count) rows)) ≡ sum_by put_need rows
rows_put number count [] = refl
rows_put number count (row ∷ rows) =
    omega (
      arith,
      put_needs number count row,
      rows_put number count rows,
      sum_by-cons put_need row rows,
      sum_by-cons record_need (payload_of (Put number count row)) (map payload_of (map (Put number count) rows)),
    )

book_put : (number count : ℕ) (rows : List Row)
    → sum_by record_need (map payload_of (row_forms number count rows)) ≡ rows_need rows
book_put number count [] = omega (arith, count_needs number count)
book_put number count (row ∷ rows) = rows_put number count (row ∷ rows)

books_put : (books : List NumberedBook) → sum_by record_need (map payload_of (flat_map book_forms books))
    ≡ sum_by (λ book. rows_need book.rows) books
books_put [] = refl
books_put (book ∷ books) =
    ap (sum_by record_need) (map-append payload_of (book_forms book) (flat_map book_forms books))
    ∙ omega (
      arith,
      sum_by-append record_need (map payload_of (book_forms book)) (map payload_of (flat_map book_forms books)),
      book_put book.number book.count book.rows,
      books_put books,
      sum_by-cons (λ (b : NumberedBook). rows_need b.rows) book books,
    )

lists_put : (lists : List TypistList)
    → sum_by record_need (map payload_of (map list_form lists)) ≡ sum_by (λ list. list_need list.books) lists
lists_put [] = refl
lists_put (list ∷ lists) =
    omega (
      arith,
      list_needs list.typist list.books,
      lists_put lists,
      sum_by-cons (λ (l : TypistList). list_need l.books) list lists,
      sum_by-cons record_need (payload_of (list_form list)) (map payload_of (map list_form lists)),
    )

-- the tight end of a state is the end of its compacted records
pub compacted_end : (state : State) → end_of (map payload_of (compacted state)) ≡ tight state
compacted_end state =
    let books = flat_map book_forms state.books in
    let lists = map list_form state.lists in
    omega (
      arith,
      framed_needs (map payload_of (compacted state)),
      ap (sum_by record_need) (map-append payload_of books lists),
      sum_by-append record_need (map payload_of books) (map payload_of lists),
      books_put state.books,
      lists_put state.lists,
    )
