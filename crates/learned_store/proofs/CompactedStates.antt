-- The records of a compaction, one after another, put each row and each book behind those before, and leave the state.
use Rattle.std.proofs.Common.{◌≡◌, ℕ, ◌≤◌, Bool, true, false, cond, ◌&&◌, ◌==◌, nat_le, nat_lt, None, Some, List, []}
use Rattle.std.proofs.Common.{◌∷◌, ◌++◌, map, refl, sym, ap, ◌∙◌, subst, arith, append_assoc}
use Rattle.std.specs.List.{flat_map, list_all}
use Rattle.std.proofs.lemmas.Bool.{and_parts}
use Rattle.std.proofs.lemmas.Bool.Decides.{nat_tests}
use Rattle.std.proofs.lemmas.List.{append-nil, map-append}
use Rattle.skk_text.specs.Pairs.{all_pairs}
use Rattle.ordered_lists.specs.KeyOrders.{number_keys}
use Rattle.ordered_lists.specs.OrderLaws.{less_differs}
use Rattle.ordered_lists.specs.Orders.{Order, before, item_of, with_item}
use Rattle.skk_calls.specs.declared.book.NumberedBook.{NumberedBook}
use Rattle.skk_calls.specs.declared.book_list.TypistList.{TypistList}
use Rattle.skk_calls.specs.BookLists.{same_numbers, shared_alone}
use Rattle.skk_calls.specs.OrderLaws.{row_keys}
use Rattle.skk_calls.specs.Rows.{Row}
use Rattle.skk_calls.specs.States.{State, rows_of, count_of, book_rows, book_count, with_row, with_book, rows_ascend}
use Rattle.skk_calls.specs.States.{fits_count, is_book, books_ascend, is_kept_list, is_valid, lists_ascend}
use Rattle.skk_calls.specs.States.{state_listed, without_list}
use Rattle.learned_store.specs.declared.form.PayloadForm.{PayloadForm}
use Rattle.learned_store.specs.declared.form.PayloadForm.TheVariants.{Put, SetCount, SetList}
use Rattle.learned_store.specs.Payloads.{CountsOn, are_held, counted_by, is_sound, first_version, may_follow}
use Rattle.learned_store.specs.Payloads.{newest_version}
use Rattle.learned_store.specs.Payloads.{payload_of, state_told}
use Rattle.learned_store.specs.Reading.{is_written_row}
use Rattle.learned_store.specs.Recovered.{Leads, Leave}
use Rattle.learned_store.specs.Compacted.{row_forms, book_forms, list_form, compacted, is_written_book}
use Rattle.learned_store.specs.Compacted.{is_written_list, is_written}

-- Items in order

module _ {X K : Type 0} (key : X → K) (keys : Order K) where
  -- a key is itself
  itself : (k : K) → keys.same k k ≡ true
  itself k = grind (arith, keys.apart k k, keys.irreflexive k)

  -- where all items are less than one, each passes the tests by which it stays before that one
  not_back : (k other : K) → keys.less k other ≡ true → keys.less other k ≡ false
  not_back k other less = grind (arith, keys.transitive k other k, keys.irreflexive k)

  -- an item that is greater than all others comes behind them
  put_behind : (xs : List X) (x : X) → list_all (λ y. keys.less (key y) (key x)) xs ≡ true
      → with_item key keys x xs ≡ xs ++ x ∷ []
  put_behind [] x less = refl
  put_behind (y ∷ ys) x less =
      grind (arith, put_behind ys x, not_back (key y) (key x), less_differs keys (key y) (key x))

  -- also in place of a last one of its key
  put_again : (xs : List X) (old x : X) → keys.same (key old) (key x) ≡ true
      → list_all (λ y. keys.less (key y) (key x)) xs ≡ true
      → with_item key keys x (xs ++ old ∷ []) ≡ xs ++ x ∷ []
  put_again [] old x same less = grind arith
  put_again (y ∷ ys) old x same less =
      grind (arith, put_again ys old x, not_back (key y) (key x), less_differs keys (key y) (key x))

  -- among lesser items none of a key is found
  none_there : (xs : List X) (k : K) → list_all (λ y. keys.less (key y) k) xs ≡ true → item_of key keys k xs ≡ None
  none_there [] k less = refl
  none_there (y ∷ ys) k less = grind (arith, none_there ys k, less_differs keys (key y) k)

  -- and behind them the last one is
  last_there : (xs : List X) (x : X) → list_all (λ y. keys.less (key y) (key x)) xs ≡ true
      → item_of key keys (key x) (xs ++ x ∷ []) ≡ Some x
  last_there [] x less = grind (arith, itself (key x))
  last_there (y ∷ ys) x less = grind (arith, last_there ys x, less_differs keys (key y) (key x))

-- each of the first items of a list of pairs stands in the relation to each of the others
before_one : {X : Type 0} (test : X → X → Bool) (xs : List X) (x : X) (rest : List X)
    → all_pairs test (xs ++ x ∷ rest) ≡ true → list_all (λ y. test y x) xs ≡ true
before_one test [] x rest pairs = refl
before_one test (y ∷ ys) x rest pairs = grind (arith, before_one test ys x rest, here y x rest ys)
  where
    here : (y x : _) (rest ys : List _) → list_all (test y) (ys ++ x ∷ rest) ≡ true → test y x ≡ true
    here y x rest [] all = grind arith
    here y x rest (z ∷ zs) all = grind (arith, here y x rest zs)

-- Records

-- records lead on behind others
leads-append : (version : ℕ) (start middle after : State) (records others : List (List ℕ))
    → Leads version start records middle → Leads version middle others after
    → Leads version start (records ++ others) after
leads-append version start middle after [] others is leads =
    subst (λ (s : State). Leads version s others after) is leads
leads-append version start middle after (payload ∷ records) others (form, says, first) leads =
    (form, says, leads-append version (state_told start form) middle after records others first leads)

-- a record that may be written says what it says, and others lead on behind it
leads-cons : (start middle after : State) (form : PayloadForm) (records : List (List ℕ))
    → nat_le (first_version form) newest_version ≡ true → may_follow start form ≡ true → is_sound form ≡ true
    → CountsOn start (counted_by form) → state_told start form ≡ middle
    → Leads newest_version middle records after
    → Leads newest_version start (payload_of form ∷ records) after
leads-cons start middle after form records known follows sound later is leads = (
  form,
  record { known = known; sound = sound; counted = later; follows = follows; is = refl },
  subst (λ (s : State). Leads newest_version s records after) (sym is) leads,
)

-- A book behind others

-- the state of these books
abbrev in_state : List NumberedBook → State
in_state books = record { books = books; lists = [] }

module _ (done : List NumberedBook) (number count : ℕ) where
  -- the books that are done, and one of this number and count with these rows behind them
  abbrev and_book : List Row → List NumberedBook
  and_book rows = done ++ record { number = number; count = count; rows = rows } ∷ []

  -- among these books that of the number has these rows and no greater count, and it comes last when it is put there
  record IsLast (books : List NumberedBook) (rows : List Row) : Type 0 where
    pub there : rows_of (in_state books) number ≡ rows
    pub later : count_of (in_state books) number ≤ count
    pub put : (others : List Row)
        → with_book (record { number = number; count = count; rows = others }) books ≡ and_book others

  module _ (less : list_all (λ b. nat_lt b.number number) done ≡ true) where
    not_yet : IsLast done []
    not_yet =
        let none = none_there (λ (b : NumberedBook). b.number) number_keys done number less in
        record {
          there = ap book_rows none;
          later = subst (λ (n : ℕ). n ≤ count) (sym (ap book_count none)) (omega arith);
          put = λ others. put_behind (λ (b : NumberedBook). b.number) number_keys done
              (record { number = number; count = count; rows = others }) less;
        }

    again : (rows : List Row) → IsLast (and_book rows) rows
    again rows =
        let book : NumberedBook = record { number = number; count = count; rows = rows } in
        let there = last_there (λ (b : NumberedBook). b.number) number_keys done book less in
        record {
          there = ap book_rows there;
          later = subst (λ (n : ℕ). n ≤ count) (sym (ap book_count there)) (omega arith);
          put = λ others. put_again (λ (b : NumberedBook). b.number) number_keys done book
              (record { number = number; count = count; rows = others })
              (itself (λ (b : NumberedBook). b.number) number_keys number) less;
        }

    -- a row behind the others of its book
    one_put : (books : List NumberedBook) (front : List Row) (row : Row) → IsLast books front
        → list_all (λ r. row_keys.less r.key row.key) front ≡ true
        → state_told (in_state books) (Put number count row) ≡ in_state (and_book (front ++ row ∷ []))
    one_put books front row last behind =
        ap (λ (rows : List Row). in_state (with_book (record {
          number = number;
          count = count;
          rows = with_row row.key (Some row) rows;
        }) books)) last.there
        ∙ ap (λ (rows : List Row). in_state (with_book (record { number = number; count = count; rows = rows }) books))
        (put_behind (λ (r : Row). r.key) row_keys front row behind)
        ∙ ap in_state (last.put (front ++ row ∷ []))

    module _ (held : are_held number count ≡ true) where
      -- a row, and what leads on behind it
      row_leads : (books : List NumberedBook) (front : List Row) (row : Row) (after : State) (records : List (List ℕ))
          → IsLast books front → list_all (λ r. row_keys.less r.key row.key) front ≡ true
          → is_written_row count row ≡ true
          → Leads newest_version (in_state (and_book (front ++ row ∷ []))) records after
          → Leads newest_version (in_state books) (payload_of (Put number count row) ∷ records) after
      row_leads books front row after records last behind written =
          leads-cons (in_state books) (in_state (and_book (front ++ row ∷ []))) after (Put number count row) records
          refl refl (grind (arith, held, written)) last.later (one_put books front row last behind)

      -- its rows, one after another
      rows_lead : (books : List NumberedBook) (front : List Row) (row : Row) (rows : List Row) → IsLast books front
          → rows_ascend (front ++ row ∷ rows) ≡ true → list_all (is_written_row count) (row ∷ rows) ≡ true
          → Leads newest_version (in_state books) (map payload_of (map (Put number count) (row ∷ rows)))
          (in_state (and_book (front ++ row ∷ rows)))
      rows_lead books front row [] last pairs all =
          row_leads books front row (in_state (and_book (front ++ row ∷ []))) [] last
          (before_one (before (λ (r : Row). r.key) row_keys) front row [] pairs) (grind (arith, all)) refl
      rows_lead books front row (next ∷ rows) last pairs all =
          let own = and_parts (is_written_row count row) (list_all (is_written_row count) (next ∷ rows)) all in
          let same = append_assoc front (row ∷ []) (next ∷ rows) in
          let rest = map payload_of (map (Put number count) (next ∷ rows)) in
          row_leads books front row (in_state (and_book (front ++ row ∷ next ∷ rows))) rest last
          (before_one (before (λ (r : Row). r.key) row_keys) front row (next ∷ rows) pairs) own.0
          (subst (λ (l : List Row). Leads newest_version (in_state (and_book (front ++ row ∷ []))) rest
          (in_state (and_book l))) same
          (rows_lead (and_book (front ++ row ∷ [])) (front ++ row ∷ []) next rows (again (front ++ row ∷ []))
          (subst (λ (l : List Row). rows_ascend l ≡ true) (sym same) pairs) own.1))

      -- its records lead to the state with it behind the others
      book_leads : (rows : List Row) → nat_le 1 count ≡ true → rows_ascend rows ≡ true
          → list_all (is_written_row count) rows ≡ true
          → Leads newest_version (in_state done) (map payload_of (row_forms number count rows))
          (in_state (and_book rows))
      book_leads [] some pairs all =
          leads-cons (in_state done) (in_state (and_book [])) (in_state (and_book [])) (SetCount number count) [] refl
          refl held not_yet.later set refl
        where
          counted : (count == 0) ≡ false
          counted = grind (arith, nat_tests)

          set : state_told (in_state done) (SetCount number count) ≡ in_state (and_book [])
          set =
              ap (λ (b : Bool). cond b (in_state done) (in_state (with_book (record {
                number = number;
                count = count;
                rows = rows_of (in_state done) number;
              }) done))) counted
              ∙ ap (λ (l : List Row). in_state (with_book (record { number = number; count = count; rows = l }) done))
              not_yet.there
              ∙ ap in_state (not_yet.put [])
      book_leads (row ∷ rows) some pairs all = rows_lead done [] row rows not_yet pairs all

-- the records of books lead to the state with them behind the others
books_lead : (done books : List NumberedBook) → books_ascend (done ++ books) ≡ true → list_all is_book books ≡ true
    → list_all is_written_book books ≡ true
    → Leads newest_version (in_state done) (map payload_of (flat_map book_forms books)) (in_state (done ++ books))
books_lead done [] pairs all written = ap in_state (append-nil done)
books_lead done (book ∷ books) pairs all written =
    let less = before_one (before (λ (b : NumberedBook). b.number) number_keys) done book books pairs in
    let parts = and_parts (is_book book) (list_all is_book books) all in
    let facts =
    and_parts (nat_le 1 book.count) (rows_ascend book.rows && list_all (fits_count book.count) book.rows) parts.0 in
    let ascends = (and_parts (rows_ascend book.rows) (list_all (fits_count book.count) book.rows) facts.1).0 in
    let own = and_parts (is_written_book book) (list_all is_written_book books) written in
    let may = and_parts (are_held book.number book.count) (list_all (is_written_row book.count) book.rows) own.0 in
    let same = append_assoc done (book ∷ []) books in
    let rest = map payload_of (flat_map book_forms books) in
    subst (λ (l : List (List ℕ)). Leads newest_version (in_state done) l (in_state (done ++ book ∷ books)))
    (sym (map-append payload_of (book_forms book) (flat_map book_forms books)))
    (leads-append newest_version (in_state done) (in_state (done ++ book ∷ [])) (in_state (done ++ book ∷ books))
    (map payload_of (book_forms book)) rest
    (book_leads done book.number book.count less may.0 book.rows facts.0 ascends may.1)
    (subst (λ (l : List NumberedBook). Leads newest_version (in_state (done ++ book ∷ [])) rest (in_state l)) same
    (books_lead (done ++ book ∷ []) books (subst (λ (l : List NumberedBook). books_ascend l ≡ true) (sym same) pairs)
    parts.1 own.1)))

-- Lists behind others

-- the state with these lists
abbrev listed_in : List NumberedBook → List TypistList → State
listed_in books lists = record { books = books; lists = lists }

-- a typist's list that is greater than all others comes behind them
list_put : (books : List NumberedBook) (done : List TypistList) (list : TypistList)
    → list_all (λ l. nat_lt l.typist list.typist) done ≡ true → is_kept_list list ≡ true
    → state_listed (listed_in books done) list.typist list.books ≡ listed_in books (done ++ list ∷ [])
list_put books done list less kept =
    let other : same_numbers list.books shared_alone ≡ false = grind (arith, kept) in
    ap (λ (b : Bool). listed_in books (cond b (without_list list.typist done)
    (with_item (λ (l : TypistList). l.typist) number_keys list done))) other
    ∙ ap (listed_in books) (put_behind (λ (l : TypistList). l.typist) number_keys done list less)

-- the records of lists lead to the state with them behind the others
lists_lead : (books : List NumberedBook) (done lists : List TypistList) → lists_ascend (done ++ lists) ≡ true
    → list_all is_kept_list lists ≡ true → list_all is_written_list lists ≡ true
    → Leads newest_version (listed_in books done) (map payload_of (map list_form lists))
    (listed_in books (done ++ lists))
lists_lead books done [] pairs all written = ap (listed_in books) (append-nil done)
lists_lead books done (list ∷ lists) pairs all written =
    let less = before_one (before (λ (l : TypistList). l.typist) number_keys) done list lists pairs in
    let kept = and_parts (is_kept_list list) (list_all is_kept_list lists) all in
    let own = and_parts (is_written_list list) (list_all is_written_list lists) written in
    let same = append_assoc done (list ∷ []) lists in
    let rest = map payload_of (map list_form lists) in
    leads-cons (listed_in books done) (listed_in books (done ++ list ∷ [])) (listed_in books (done ++ list ∷ lists))
    (SetList list.typist list.books) rest refl refl own.0 tt (list_put books done list less kept.0)
    (subst (λ (l : List TypistList). Leads newest_version (listed_in books (done ++ list ∷ [])) rest
    (listed_in books l)) same
    (lists_lead books (done ++ list ∷ []) lists
    (subst (λ (l : List TypistList). lists_ascend l ≡ true) (sym same) pairs) kept.1 own.1))

-- the records of a compaction leave their state
pub compacted_leave : (state : State) → is_valid state ≡ true → is_written state ≡ true
    → Leave (record { version = newest_version; records = map payload_of (compacted state) }) state
compacted_leave state valid written =
    let lists = lists_ascend state.lists && list_all is_kept_list state.lists in
    let parts = and_parts (books_ascend state.books) (list_all is_book state.books && lists) valid in
    let books = and_parts (list_all is_book state.books) lists parts.1 in
    let kept = and_parts (lists_ascend state.lists) (list_all is_kept_list state.lists) books.1 in
    let all = and_parts (list_all is_written_book state.books) (list_all is_written_list state.lists) written in
    let front = map payload_of (flat_map book_forms state.books) in
    let back = map payload_of (map list_form state.lists) in
    subst (λ (records : List (List ℕ)). Leads newest_version (in_state []) records state)
    (sym (map-append payload_of (flat_map book_forms state.books) (map list_form state.lists)))
    (leads-append newest_version (in_state []) (in_state state.books) state front back
    (books_lead [] state.books parts.0 books.0 all.0) (lists_lead state.books [] state.lists kept.0 kept.1 all.1))
