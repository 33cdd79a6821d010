-- What records leave may be written again.
use Rattle.std.proofs.Common.{◌≡◌, ℕ, ◌≤◌, Bool, true, false, cond, not, ◌==◌, nat_lt, Option, None, Some, List, []}
use Rattle.std.proofs.Common.{◌∷◌, All, map, refl, sym, ◌∙◌, subst, arith}
use Rattle.std.specs.List.{flat_map, list_all}
use Rattle.std.specs.Option.{option_map_or}
use Rattle.std.specs.Str.{all_scalars}
use Rattle.std.proofs.lemmas.Bool.{and_from, and_parts}
use Rattle.std.proofs.lemmas.List.Elements.{All-nil, All-cons}
use Rattle.std.proofs.lemmas.List.Folds.{list_all-append}
use Rattle.skk_text.specs.FilterLaws.{list_all_found}
use Rattle.skk_text.specs.PairsLaws.{list_all-filter, list_all-weaker}
use Rattle.ordered_lists.specs.OrderLaws.{list_all-insert_by}
use Rattle.ordered_lists.specs.Orders.{insert_by}
use Rattle.skk_calls.specs.declared.book.NumberedBook.{NumberedBook}
use Rattle.skk_calls.specs.declared.book_list.TypistList.{TypistList}
use Rattle.skk_calls.specs.BookLists.{same_numbers, shared_alone}
use Rattle.skk_calls.specs.Canonical.{canonical, item}
use Rattle.skk_calls.specs.KeyLaws.{same_key_equal}
use Rattle.skk_calls.specs.Learning.{annotated}
use Rattle.skk_calls.specs.Orders.{key_less}
use Rattle.skk_calls.specs.Rows.{RowKey, Cand, Row, same_key}
use Rattle.skk_calls.specs.States.{State, empty_state, book_at, book_rows, book_count, row_in, rows_of, row_at}
use Rattle.skk_calls.specs.States.{count_of, with_row, without_row, without_book, with_book, state_with, fits_count}
use Rattle.skk_calls.specs.States.{is_valid, state_listed, without_list}
use Rattle.dict_laws.specs.ChangedStates.{has_key, row_in_has_key}
use Rattle.skk_journal.specs.Contents.{Contents}
use Rattle.skk_journal.specs.Records.{IsSized}
use Rattle.learn_index.specs.Records.{state_counted, state_without}
use Rattle.learned_store.specs.declared.form.PayloadForm.{PayloadForm}
use Rattle.learned_store.specs.declared.form.PayloadForm.TheVariants.{Put, Drop, SetCount, Note, SetList}
use Rattle.learned_store.specs.Payloads.{CountsOn, are_held, counted_by, is_sound, may_follow, payload_of}
use Rattle.learned_store.specs.Payloads.{state_told, takes_note}
use Rattle.learned_store.specs.Reading.{is_written_row}
use Rattle.learned_store.specs.Recovered.{Leads, Leave}
use Rattle.learned_store.specs.Compacted.{row_forms, book_forms, list_form, compacted, is_written_book}
use Rattle.learned_store.specs.Compacted.{is_written_list, is_written}
use Rattle.learned_store.proofs.ScalarsAnnotated.{annotated_spells}
use Rattle.learned_store.proofs.Sized.{sound_sized}
use Rattle.learned_store.proofs.SoundForms.{note_parts}
use Rattle.learned_store.proofs.ToldStates.{fits_later, note_fits, valid_told}

-- a row that may be written in a book may be written in it later
written_later : (count later : ℕ) → count ≤ later → (row : Row) → is_written_row count row ≡ true
    → is_written_row later row ≡ true
written_later count later most row written = grind (arith, fits_later count later most row)

-- the books and the lists of a state that may be written may be
written_books : (state : State) → is_written state ≡ true → list_all is_written_book state.books ≡ true
written_books state written =
    (and_parts (list_all is_written_book state.books) (list_all is_written_list state.lists) written).0

written_lists : (state : State) → is_written state ≡ true → list_all is_written_list state.lists ≡ true
written_lists state written =
    (and_parts (list_all is_written_book state.books) (list_all is_written_list state.lists) written).1

module _ (state : State) (written : is_written state ≡ true) (number count : ℕ) (later : count_of state number ≤ count)
    (held : are_held number count ≡ true) where
  -- the rows of a book may be written in it later
  rows_written : list_all (is_written_row count) (rows_of state number) ≡ true
  rows_written =
      list_all-weaker (is_written_row (count_of state number)) (is_written_row count)
      (written_later (count_of state number) count later) (rows_of state number) (by (book_at state number) refl)
    where
      by : (found : Option NumberedBook) → book_at state number ≡ found
          → list_all (is_written_row (book_count found)) (book_rows found) ≡ true
      by None is = refl
      by (Some book) is =
          (and_parts (are_held book.number book.count) (list_all (is_written_row book.count) book.rows)
          (list_all_found is_written_book (λ (b : NumberedBook). b.number == number) state.books book
          (written_books state written) is)).1

  -- a state may be written with a book that may be
  with_written : (rows : List Row) → list_all (is_written_row count) rows ≡ true
      → is_written (record state {
        books = with_book (record { number = number; count = count; rows = rows }) state.books;
      }) ≡ true
  with_written rows all =
      let book : NumberedBook = record { number = number; count = count; rows = rows } in
      and_from (list_all is_written_book (with_book book state.books)) (list_all is_written_list state.lists)
      (list_all-insert_by (λ (b other : NumberedBook). nat_lt b.number other.number) is_written_book book
      (without_book number state.books)
      (and_from (are_held number count) (list_all (is_written_row count) rows) held all)
      (list_all-filter is_written_book (λ (b : NumberedBook). not (b.number == number)) state.books
      (written_books state written)))
      (written_lists state written)

  -- so it may where a row was put, dropped or left
  put_written : (row : Row) → is_written_row count row ≡ true
      → is_written (state_with state number count row.key (Some row)) ≡ true
  put_written row own =
      with_written (with_row row.key (Some row) (rows_of state number))
      (list_all-insert_by (λ (r other : Row). key_less r.key other.key) (is_written_row count) row
      (without_row row.key (rows_of state number)) own
      (list_all-filter (is_written_row count) (λ (r : Row). not (same_key r.key row.key)) (rows_of state number)
      rows_written))

  drop_written : (key : RowKey) → is_written (state_without state number count key) ≡ true
  drop_written key = by (count == 0)
    where
      by : (b : Bool) → is_written (cond b state (state_with state number count key None)) ≡ true
      by true = written
      by false =
          with_written (without_row key (rows_of state number))
          (list_all-filter (is_written_row count) (λ (r : Row). not (same_key r.key key)) (rows_of state number)
          rows_written)

  count_written : is_written (state_counted state number count) ≡ true
  count_written = by (count == 0)
    where
      by : (b : Bool) → is_written (cond b state (record state {
        books = with_book (record { number = number; count = count; rows = rows_of state number }) state.books;
      })) ≡ true
      by true = written
      by false = with_written (rows_of state number) rows_written

-- so it may where a typist was given a list that may be written
list_written : (state : State) → is_written state ≡ true → (typist : ℕ) (books : List ℕ)
    → is_sound (SetList typist books) ≡ true → is_written (state_listed state typist books) ≡ true
list_written state written typist books sound = by (same_numbers books shared_alone)
  where
    others : List TypistList
    others = without_list typist state.lists

    less : TypistList → TypistList → Bool
    less list other = nat_lt list.typist other.typist

    given : TypistList
    given = record { typist = typist; books = books }

    left : list_all is_written_list others ≡ true
    left =
        list_all-filter is_written_list (λ (l : TypistList). not (l.typist == typist)) state.lists
        (written_lists state written)

    by : (b : Bool) → is_written (record state { lists = cond b others (insert_by less given others) }) ≡ true
    by true =
        and_from (list_all is_written_book state.books) (list_all is_written_list others)
        (written_books state written) left
    by false =
        and_from (list_all is_written_book state.books) (list_all is_written_list (insert_by less given others))
        (written_books state written) (list_all-insert_by less is_written_list given others sound left)

-- of rows that may be written the one that is found may
found_written : (count : ℕ) (key : RowKey) (rows : List Row) → list_all (is_written_row count) rows ≡ true
    → option_map_or (is_written_row count) (row_in key rows) true ≡ true
found_written count key rows all = by (row_in key rows) refl
  where
    by : (found : Option Row) → row_in key rows ≡ found → option_map_or (is_written_row count) found true ≡ true
    by None is = refl
    by (Some row) is = list_all_found (is_written_row count) (λ (r : Row). same_key r.key key) rows row all is

-- a row that takes a note may be written then, where it could before
noted_written : (count : ℕ) (key : RowKey) (cand : Cand) (row : Option Row) → has_key key row ≡ true
    → option_map_or (is_written_row count) row true ≡ true → all_scalars (item cand) ≡ true
    → takes_note row cand count ≡ true → fits_count count (annotated row key cand count) ≡ true
    → is_written_row count (annotated row key cand count) ≡ true
noted_written count key cand None has written new takes fits = cc
noted_written count key cand (Some row) has written new takes fits =
    let spelled = (and_parts (fits_count count row) (all_scalars (canonical row)) written).1 in
    let same = same_key_equal row.key key has in
    and_from (fits_count count (annotated (Some row) key cand count))
    (all_scalars (canonical (annotated (Some row) key cand count))) fits
    (subst (λ (k : RowKey). all_scalars (canonical (annotated (Some row) k cand count)) ≡ true) same
    (annotated_spells row cand count spelled new))

told_written : (state : State) (form : PayloadForm) → is_valid state ≡ true → is_written state ≡ true
    → is_sound form ≡ true → CountsOn state (counted_by form) → may_follow state form ≡ true
    → is_written (state_told state form) ≡ true
told_written state (Put book count row) valid written sound later follows =
    put_written state written book count later (grind (arith, sound)) row (grind (arith, sound))
told_written state (Drop book count key) valid written sound later follows =
    drop_written state written book count later (grind (arith, sound)) key
told_written state (SetCount book count) valid written sound later follows =
    count_written state written book count later sound
told_written state (Note book count key cand) valid written sound later follows =
    let parts = note_parts book count key cand sound in
    let rows = rows_written state written book count later parts.held in
    put_written state written book count later parts.held (annotated (row_at state book key) key cand count)
    (noted_written count key cand (row_at state book key) (row_in_has_key key (rows_of state book))
    (found_written count key (rows_of state book) rows) parts.item follows
    (note_fits state valid book count key cand sound follows))
told_written state (SetList typist books) valid written sound later follows =
    list_written state written typist books sound

-- records leave a state that is valid and may be written
led_valid : (version : ℕ) (start after : State) (records : List (List ℕ)) → Leads version start records after
    → is_valid start ≡ true → is_valid after ≡ true
led_valid version start after [] is valid = subst (λ (s : State). is_valid s ≡ true) (sym is) valid
led_valid version start after (payload ∷ records) (form, says, leads) valid =
    led_valid version (state_told start form) after records leads
    (valid_told start valid form says.sound says.counted says.follows)

led_written : (version : ℕ) (start after : State) (records : List (List ℕ)) → Leads version start records after
    → is_valid start ≡ true → is_written start ≡ true → is_written after ≡ true
led_written version start after [] is valid written = subst (λ (s : State). is_written s ≡ true) (sym is) written
led_written version start after (payload ∷ records) (form, says, leads) valid written =
    led_written version (state_told start form) after records leads
    (valid_told start valid form says.sound says.counted says.follows)
    (told_written start form valid written says.sound says.counted says.follows)

pub left_valid : (contents : Contents) (state : State) → Leave contents state → is_valid state ≡ true
left_valid contents state leave = led_valid contents.version empty_state state contents.records leave refl

pub left_written : (contents : Contents) (state : State) → Leave contents state → is_written state ≡ true
left_written contents state leave = led_written contents.version empty_state state contents.records leave refl refl

-- each record of a compaction may be written
rows_sound : (number count : ℕ) (rows : List Row) → are_held number count ≡ true
    → list_all (is_written_row count) rows ≡ true → list_all is_sound (map (Put number count) rows) ≡ true
rows_sound number count [] held all = refl
rows_sound number count (row ∷ rows) held all = grind (arith, rows_sound number count rows)

book_sound : (number count : ℕ) (rows : List Row) → are_held number count ≡ true
    → list_all (is_written_row count) rows ≡ true → list_all is_sound (row_forms number count rows) ≡ true
book_sound number count [] held all = and_from (are_held number count) true held refl
book_sound number count (row ∷ rows) held all = rows_sound number count (row ∷ rows) held all

books_sound : (books : List NumberedBook) → list_all is_written_book books ≡ true
    → list_all is_sound (flat_map book_forms books) ≡ true
books_sound [] all = refl
books_sound (book ∷ books) all =
    let own = and_parts (is_written_book book) (list_all is_written_book books) all in
    let may = and_parts (are_held book.number book.count) (list_all (is_written_row book.count) book.rows) own.0 in
    list_all-append is_sound (book_forms book) (flat_map book_forms books)
    ∙ and_from (list_all is_sound (book_forms book)) (list_all is_sound (flat_map book_forms books))
    (book_sound book.number book.count book.rows may.0 may.1) (books_sound books own.1)

lists_sound : (lists : List TypistList) → list_all is_written_list lists ≡ true
    → list_all is_sound (map list_form lists) ≡ true
lists_sound [] all = refl
lists_sound (list ∷ lists) all = grind (arith, lists_sound lists)

pub compacted_sound : (state : State) → is_written state ≡ true → list_all is_sound (compacted state) ≡ true
compacted_sound state written =
    list_all-append is_sound (flat_map book_forms state.books) (map list_form state.lists)
    ∙ and_from (list_all is_sound (flat_map book_forms state.books)) (list_all is_sound (map list_form state.lists))
    (books_sound state.books (written_books state written)) (lists_sound state.lists (written_lists state written))

-- so each fits a record
pub sound_all_sized : (forms : List PayloadForm) → list_all is_sound forms ≡ true → All IsSized (map payload_of forms)
sound_all_sized [] sound = All-nil IsSized
sound_all_sized (form ∷ forms) sound =
    let parts = and_parts (is_sound form) (list_all is_sound forms) sound in
    All-cons IsSized (payload_of form) (map payload_of forms) (sound_sized form parts.0)
    (sound_all_sized forms parts.1)
