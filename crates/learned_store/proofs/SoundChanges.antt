-- What the record of a change says may be written, as far as no type tells it.
use Rattle.std.proofs.Common.{◌≡◌, ℕ, ◌+◌, ◌≤◌, Bool, true, not, ◌&&◌, ◌||◌, nat_le, nat_lt, Option, None, Some, List}
use Rattle.std.proofs.Common.{[], ◌∷◌}
use Rattle.std.proofs.Common.{refl, sym, ap, ◌∙◌, subst, arith}
use Rattle.std.proofs.lemmas.Bool.{and_parts}
use Rattle.std.proofs.lemmas.Bool.Decides.{nat_tests}
use Rattle.std.proofs.lemmas.Option.{same_Some}
use Rattle.std.specs.List.{list_all}
use Rattle.skk_calls.specs.declared.book.NumberedBook.{NumberedBook}
use Rattle.skk_text.specs.Lists.{is_empty}
use Rattle.skk_text.specs.Text.{byte_len}
use Rattle.skk_calls.specs.BookLists.{is_book_list}
use Rattle.skk_calls.specs.declared.call.Call.{Call}
use Rattle.skk_calls.specs.declared.call.Call.TheVariants.{Lookup, Complete, Learn, Purge, Annotate, Share, Unlearn}
use Rattle.skk_calls.specs.Canonical.{canonical, is_good, line_limit}
use Rattle.skk_calls.specs.Dictionary.{after, moves, is_call}
use Rattle.skk_calls.specs.KeyLaws.{same_key_equal}
use Rattle.skk_calls.specs.Learning.{annotated}
use Rattle.skk_calls.specs.Orders.{key_less, insert_by}
use Rattle.skk_calls.specs.Rows.{RowKey, Cand, Block, Row, is_cand, is_row, is_row_key, is_word}
use Rattle.skk_calls.specs.States.{State, row_at, rows_of, count_of, state_with, with_row, with_book, without_row}
use Rattle.skk_calls.specs.States.{has_stamp}
use Rattle.skk_calls.specs.States.{without_book, fits_count, rows_ascend, is_book, books_ascend, is_kept_list}
use Rattle.skk_calls.specs.States.{is_valid, lists_ascend}
use Rattle.dict_laws.specs.ChangedStates.{has_key, row_in_has_key}
use Rattle.learned_store.specs.declared.form.PayloadForm.{PayloadForm}
use Rattle.learned_store.specs.declared.form.PayloadForm.TheVariants.{Put, Drop, SetCount, Note, SetList}
use Rattle.learned_store.specs.Payloads.{CountsOn, change_told, counted_by, may_follow, note_told, row_told, takes_note}
use Rattle.learned_store.proofs.Changes.{change_leaves}

-- what holds of each item of a list holds of one that was put into it
one_of : {X : Type 0} (before : X → X → Bool) (p : X → Bool) (x : X) (xs : List X)
    → list_all p (insert_by before x xs) ≡ true → p x ≡ true
one_of before p x [] all = grind arith
one_of before p x (y ∷ ys) all = grind (arith, one_of before p x ys)

-- a row that was put into a book may stand in it, where the state is valid then
put_fits : (state : State) (number count : ℕ) (row : Row)
    → is_valid (state_with state number count row.key (Some row)) ≡ true → fits_count count row ≡ true
put_fits state number count row valid =
    let rows = with_row row.key (Some row) (rows_of state number) in
    let book : NumberedBook = record { number = number; count = count; rows = rows } in
    let books = with_book book state.books in
    let kept = lists_ascend state.lists && list_all is_kept_list state.lists in
    let all =
    (and_parts (list_all is_book books) kept
    (and_parts (books_ascend books) (list_all is_book books && kept) valid).1).0 in
    let one =
    one_of (λ (b other : NumberedBook). nat_lt b.number other.number) is_book book (without_book number state.books)
    all in
    let parts = and_parts (nat_le 1 count) (rows_ascend rows && list_all (fits_count count) rows) one in
    one_of (λ (r other : Row). key_less r.key other.key) (fits_count count) row
    (without_row row.key (rows_of state number))
    (and_parts (rows_ascend rows) (list_all (fits_count count) rows) parts.1).1

-- what the record of an annotation, or of a key that has a row now or none, says gives its book the count
note_counts : (book count : ℕ) (key : RowKey) (cand : Cand) (row : Option Row)
    → counted_by (note_told book count key cand row) ≡ Some (book, count)
note_counts book count key cand None = refl
note_counts book count key cand (Some row) = refl

row_counts : (book count : ℕ) (key : RowKey) (row : Option Row)
    → counted_by (row_told book count key row) ≡ Some (book, count)
row_counts book count key None = refl
row_counts book count key (Some row) = refl

-- a record counts on where its count is not below that of its book
counts_up : (state : State) (told form : PayloadForm) (book count : ℕ) → Some told ≡ Some form
    → counted_by told ≡ Some (book, count) → count_of state book ≤ count → CountsOn state (counted_by form)
counts_up state told form book count is counted later =
    subst (λ (f : PayloadForm). CountsOn state (counted_by f)) (same_Some told form is)
    (subst (CountsOn state) (sym counted) later)

pub change_later : (state : State) (call : Call) (form : PayloadForm) → change_told state call ≡ Some form
    → CountsOn state (counted_by form)
change_later state (Lookup who key okuri) form is = absurd (cc)
change_later state (Complete who prefix) form is = absurd (cc)
change_later state (Learn book key okuri cand) form is =
    counts_up state _ form book (count_of state book + 1) is refl (omega arith)
change_later state (Purge book key word) form is =
    counts_up state _ form book (count_of state book + 1) is refl (omega arith)
change_later state (Annotate book key cand) form is =
    let count = count_of state book + 1 in
    counts_up state _ form book count is (note_counts book count key cand (row_at state book key)) (omega arith)
change_later state (Share who books) form is =
    subst (λ (f : PayloadForm). CountsOn state (counted_by f)) (same_Some (SetList who books) form is) tt
change_later state (Unlearn learned) form is =
    let count = count_of state learned.book in
    counts_up state _ form learned.book count is (row_counts learned.book count learned.key learned.before)
    (omega arith)

pub put_sound : (state : State) (call : Call) (book count : ℕ) (row : Row) → is_valid state ≡ true
    → is_call call ≡ true → is_valid (after state call) ≡ true → moves state call ≡ true
    → change_told state call ≡ Some (Put book count row) → fits_count count row ≡ true
put_sound state call book count row valid fit later moved is =
    put_fits state book count row
    (subst (λ (s : State). is_valid s ≡ true)
    (sym (change_leaves state call (Put book count row) valid fit moved is)) later)

pub drop_sound : (state : State) (call : Call) (book count : ℕ) (key : RowKey) → is_call call ≡ true
    → change_told state call ≡ Some (Drop book count key) → is_row_key key ≡ true
drop_sound state call book count key fit is = grind arith

-- a note that the record of a call says has a count, and a valid key and candidate
note_kept : (state : State) (book count number : ℕ) (key own : RowKey) (cand new : Cand) (row : Option Row)
    → (is_row_key own && is_cand new) ≡ true → note_told number (count_of state number + 1) own new row
    ≡ Note book count key cand → (nat_le 1 count && (is_row_key key && is_cand cand)) ≡ true
note_kept state book count number key own cand new None valid is = cc
note_kept state book count number key own cand new (Some row) valid is = grind (arith, nat_tests)

pub note_sound : (state : State) (call : Call) (book count : ℕ) (key : RowKey) (cand : Cand) → is_call call ≡ true
    → change_told state call ≡ Some (Note book count key cand)
    → (nat_le 1 count && (is_row_key key && is_cand cand)) ≡ true
note_sound state (Lookup who own okuri) book count key cand valid is = cc
note_sound state (Complete who prefix) book count key cand valid is = cc
note_sound state (Learn number own okuri new) book count key cand valid is = cc
note_sound state (Purge number own word) book count key cand valid is = cc
note_sound state (Annotate number own new) book count key cand valid is =
    note_kept state book count number key own cand new (row_at state number own) valid (cc)
note_sound state (Share who books) book count key cand valid is = cc
note_sound state (Unlearn learned) book count key cand valid is = unsaid learned.before is
  where
    unsaid : (before : Option Row)
        → Some (row_told learned.book (count_of state learned.book) learned.key before)
        ≡ Some (Note book count key cand)
        → (nat_le 1 count && (is_row_key key && is_cand cand)) ≡ true
    unsaid None same = cc
    unsaid (Some row) same = cc

-- the books of a typist that the record of a call says are a list of books
pub list_sound : (state : State) (call : Call) (typist : ℕ) (books : List ℕ) → is_call call ≡ true
    → change_told state call ≡ Some (SetList typist books) → is_book_list books ≡ true
list_sound state (Lookup who own okuri) typist books valid is = cc
list_sound state (Complete who prefix) typist books valid is = cc
list_sound state (Learn number own okuri new) typist books valid is = cc
list_sound state (Purge number own word) typist books valid is = cc
list_sound state (Annotate number own new) typist books valid is = unsaid (row_at state number own) is
  where
    unsaid : (row : Option Row)
        → Some (note_told number (count_of state number + 1) own new row) ≡ Some (SetList typist books)
        → is_book_list books ≡ true
    unsaid None same = cc
    unsaid (Some row) same = cc
list_sound state (Share who listed) typist books valid is = cc
list_sound state (Unlearn learned) typist books valid is = unsaid learned.before is
  where
    unsaid : (before : Option Row)
        → Some (row_told learned.book (count_of state learned.book) learned.key before) ≡ Some (SetList typist books)
        → is_book_list books ≡ true
    unsaid None same = cc
    unsaid (Some row) same = cc

-- its row is there
note_row : (state : State) (book count number stamp : ℕ) (key own : RowKey) (cand new : Cand) (found : Option Row)
    → row_at state number own ≡ found → note_told number stamp own new found ≡ Note book count key cand
    → (row : Row) × (row_at state book key ≡ Some row)
note_row state book count number stamp key own cand new None at is = absurd (cc)
note_row state book count number stamp key own cand new (Some row) at is =
    let books : number ≡ book = cc in
    let keys : own ≡ key = cc in
    (row, ap (λ n. row_at state n key) (sym books) ∙ ap (row_at state number) (sym keys) ∙ at)

note_there : (state : State) (call : Call) (book count : ℕ) (key : RowKey) (cand : Cand)
    → change_told state call ≡ Some (Note book count key cand) → (row : Row) × (row_at state book key ≡ Some row)
note_there state (Lookup who own okuri) book count key cand is = absurd (cc)
note_there state (Complete who prefix) book count key cand is = absurd (cc)
note_there state (Learn number own okuri new) book count key cand is = absurd (cc)
note_there state (Purge number own word) book count key cand is = absurd (cc)
note_there state (Annotate number own new) book count key cand is =
    note_row state book count number (count_of state number + 1) key own cand new (row_at state number own) refl (cc)
note_there state (Share who books) book count key cand is = absurd (cc)
note_there state (Unlearn learned) book count key cand is = unsaid learned.before is
  where
    unsaid : (before : Option Row)
        → Some (row_told learned.book (count_of state learned.book) learned.key before)
        ≡ Some (Note book count key cand)
        → (row : Row) × (row_at state book key ≡ Some row)
    unsaid None same = absurd (cc)
    unsaid (Some row) same = absurd (cc)

-- a row that may stand in its book after it took a note takes it
pub taken : (count : ℕ) (key : RowKey) (cand : Cand) (row : Row) → row.key ≡ key
    → fits_count count (annotated (Some row) key cand count) ≡ true → takes_note (Some row) cand count ≡ true
taken count key cand row same fits =
    subst (λ (k : RowKey). nat_le (byte_len (canonical (annotated (Some row) k cand count))) line_limit ≡ true)
    (sym same) short
  where
    after : Row
    after = annotated (Some row) key cand count

    short : nat_le (byte_len (canonical after)) line_limit ≡ true
    short =
        let rows = and_parts (is_row after) (is_good after && has_stamp count after) fits in
        let good = and_parts (is_good after) (has_stamp count after) rows.1 in
        let some = not (is_empty after.cands) || (not (is_empty after.blocks) || not (is_empty after.hides)) in
        let fitting = nat_le (byte_len (canonical after)) line_limit in
        let blocks = list_all (λ (block : Block). list_all is_word block.words) after.blocks in
        let hidden = and_parts some (list_all is_word after.hides && (blocks && fitting)) good.0 in
        let words = and_parts (list_all is_word after.hides) (blocks && fitting) hidden.1 in
        (and_parts blocks fitting words.1).1

-- and it may follow there
note_follows : (state : State) (call : Call) (book count : ℕ) (key : RowKey) (cand : Cand) → is_valid state ≡ true
    → is_call call ≡ true → is_valid (after state call) ≡ true → moves state call ≡ true
    → change_told state call ≡ Some (Note book count key cand) → may_follow state (Note book count key cand) ≡ true
note_follows state call book count key cand valid fit later moved is =
    let there = note_there state call book count key cand is in
    let row : Row = there.0 in
    let fits =
    put_fits state book count (annotated (row_at state book key) key cand count)
    (subst (λ (s : State). is_valid s ≡ true)
    (sym (change_leaves state call (Note book count key cand) valid fit moved is)) later) in
    let keyed : row.key ≡ key =
    same_key_equal row.key key (subst (λ (r : Option Row). has_key key r ≡ true) there.1
    (row_in_has_key key (rows_of state book))) in
    subst (λ (r : Option Row). takes_note r cand count ≡ true) (sym there.1)
    (taken count key cand row keyed
    (subst (λ (r : Option Row). fits_count count (annotated r key cand count) ≡ true) there.1 fits))

-- so may whatever the record of a call says
pub form_follows : (state : State) (call : Call) (form : PayloadForm) → is_valid state ≡ true → is_call call ≡ true
    → is_valid (after state call) ≡ true → moves state call ≡ true → change_told state call ≡ Some form
    → may_follow state form ≡ true
form_follows state call (Put book count row) valid typed later moved is = refl
form_follows state call (Drop book count key) valid typed later moved is = refl
form_follows state call (SetCount book count) valid typed later moved is = refl
form_follows state call (Note book count key cand) valid typed later moved is =
    note_follows state call book count key cand valid typed later moved is
form_follows state call (SetList typist books) valid typed later moved is = refl
