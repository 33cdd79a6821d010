-- What was gathered of records, and how an index comes of it.
use Rattle.std.proofs.Common.{◌≡◌, ℕ, ◌≤◌, ◌==◌, Bool, true, false, cond, Option, None, Some, List, []}
use Rattle.std.proofs.Common.{refl, sym, ap, ◌∙◌, subst, arith}
use Rattle.std.specs.BTreeMap.{BTreeMap, get, Updates}
use Rattle.std.proofs.lemmas.Bool.{le-leb, leb-true}
use Rattle.std.specs.Cmp.{unsigned_tied}
use Rattle.std.specs.Option.{option_or, unwrap_or}
use Rattle.std.specs.Ordering.{is_eq, nat_cmp}
use Rattle.skk_calls.specs.BookLists.{is_book_list}
use Rattle.skk_calls.specs.KeyLaws.{same_key_equal}
use Rattle.skk_calls.specs.Rows.{RowKey, Cand, Row, same_key}
use Rattle.skk_calls.specs.States.{State, rows_of, row_at, count_of, shared_books, state_listed, state_with}
use Rattle.skk_calls.specs.States.{fits_count, is_valid, list_in, listed_books, with_book}
use Rattle.skk_calls.specs.declared.book.NumberedBook.{NumberedBook}
use Rattle.skk_calls.specs.declared.book_list.TypistList.{TypistList}
use Rattle.dict_laws.specs.ChangedStates.{row_in_has_key}
use Rattle.dict_laws.specs.ValidStates.{fits_row_at, is_valid_listed}
use Rattle.learn_index.specs.Records.{state_counted}
use Rattle.learned_store.specs.declared.form.PayloadForm.{PayloadForm}
use Rattle.learned_store.specs.declared.form.PayloadForm.TheVariants.{Put, Drop, SetCount, Note, SetList}
use Rattle.learned_store.specs.declared.row_place.RowPlace.{RowPlace}
use Rattle.learned_store.specs.Gathering.{AreKeyed, AreOf, IsAnnotated, IsTold, ListMap, count_behind}
use Rattle.learned_store.specs.Gathering.{count_in, counts_on, list_among, list_behind, place_at, takes_on}
use Rattle.learned_store.specs.Payloads.{CountsOn, counted_by, is_sound, may_follow, state_told, takes_note}
use Rattle.learned_store.specs.RowPlaces.{place_cmp, place_tied}
use Rattle.learned_store.proofs.ToldStates.{count_told, list_told, listed_then, row_told, valid_put, valid_counted}
use Rattle.learned_store.proofs.ToldStates.{valid_told}

-- Maps

-- at a place a row stands now, or none, and at each other what stood there
abbrev pub IsChanged : (RowPlace → Option Row) → (RowPlace → Option Row) → RowPlace → Option Row → Type 0
IsChanged before after place row =
    (other : RowPlace) → after other ≡ cond (is_eq (place_cmp place other)) row (before other)

-- so it is by book and key
place_changed : (before after : RowPlace → Option Row) (place : RowPlace) (row : Option Row)
    → IsChanged before after place row → (number : ℕ) (key : RowKey)
    → after (place_at number key)
    ≡ cond (place.book == number) (cond (same_key place.key key) row (before (place_at number key)))
    (before (place_at number key))
place_changed before after place row changed number key =
    grind (arith, changed (place_at number key), place_tied place (place_at number key))

-- what a map of numbers has after a change
number_updated : (counts later : BTreeMap ℕ ℕ) (book : ℕ) (count : Option ℕ) → Updates nat_cmp counts later book count
    → (number : ℕ) → get nat_cmp later number ≡ cond (book == number) count (get nat_cmp counts number)
number_updated counts later book count updates number =
    updates.0 number ∙ ap (λ (b : Bool). cond b count (get nat_cmp counts number)) (unsigned_tied book number)

-- Records

module _ (before after : RowPlace → Option Row) (book count : ℕ) where
  -- where a row was put at its own key, or one was taken out, and where no row was told of
  pub put_told : (own : RowKey) (row : Row) → own ≡ row.key → IsChanged before after (place_at book own) (Some row)
      → IsTold (Put book count row) before after
  put_told own row is changed number key =
      grind (arith, place_changed before after (place_at book own) (Some row) changed number key)

  pub drop_told : (gone : RowKey) → IsChanged before after (place_at book gone) None
      → IsTold (Drop book count gone) before after
  drop_told gone changed = place_changed before after (place_at book gone) None changed

  -- and where a row took a note
  pub note_told : (own : RowKey) (cand : Cand) → IsAnnotated before after (place_at book own) cand count
      → AreKeyed before → IsTold (Note book count own cand) before after
  note_told own cand is keyed number key =
      grind (
        arith,
        keyed (place_at book own) is.row is.there,
        is.there,
        is.changed (place_at number key),
        place_tied (place_at book own) (place_at number key),
        same_key_equal own key,
      )

pub set_told : (before : RowPlace → Option Row) (book count : ℕ) → IsTold (SetCount book count) before before
set_told before book count number key = grind arith

pub listed_told : (before : RowPlace → Option Row) (typist : ℕ) (books : List ℕ)
    → IsTold (SetList typist books) before before
listed_told before typist books number key = refl

-- a count was given to a book
pub count_given : (counts later : BTreeMap ℕ ℕ) (book count : ℕ) → Updates nat_cmp counts later book (Some count)
    → (number : ℕ) → count_in later number ≡ count_behind (Some (book, count)) number (count_in counts number)
count_given counts later book count set number =
    grind (arith, number_updated counts later book (Some count) set number)

-- a list was given to a typist
pub list_given : (lists after : ListMap) (typist : ℕ) (books : List ℕ) → Updates nat_cmp lists after typist (Some books)
    → (other : ℕ) → list_among after other ≡ cond (typist == other) books (list_among lists other)
list_given lists after typist books set other =
    grind (
      arith,
      set.0 other,
      unsigned_tied typist other,
    )

-- what is not below a count among counts is not below that of the state which they are of
pub counted_on : (state : State) (counts : BTreeMap ℕ ℕ) (counted : Option (ℕ × ℕ))
    → ((number : ℕ) → count_in counts number ≡ count_of state number) → counts_on counts counted ≡ true
    → CountsOn state counted
counted_on state counts None are on = tt
counted_on state counts (Some counted) are on =
    subst (λ (n : ℕ). n ≤ counted.1) (are counted.0) (leb-true (count_in counts counted.0) counted.1 on)

pub counts_still : (state : State) (counts : BTreeMap ℕ ℕ) (counted : Option (ℕ × ℕ))
    → ((number : ℕ) → count_in counts number ≡ count_of state number) → CountsOn state counted
    → counts_on counts counted ≡ true
counts_still state counts None are on = refl
counts_still state counts (Some counted) are on =
    le-leb (count_in counts counted.0) counted.1 (subst (λ (n : ℕ). n ≤ counted.1) (sym (are counted.0)) on)

module _ (before after : RowPlace → Option Row) (counts later : BTreeMap ℕ ℕ) (lists last : ListMap)
    (form : PayloadForm) (told : IsTold form before after)
    (count_set : (number : ℕ) → count_in later number ≡ count_behind (counted_by form) number (count_in counts number))
    (list_set : (typist : ℕ) → list_among last typist ≡ list_behind form typist (list_among lists typist))
    (state : State) (are : AreOf state counts lists before) (sound : is_sound form ≡ true)
    (counted : CountsOn state (counted_by form)) (follows : may_follow state form ≡ true) where
  -- what was gathered is what one record more leaves
  pub are_told : AreOf (state_told state form) later last after
  are_told = record {
    valid = valid_told state are.valid form sound counted follows;
    count = λ number.
        count_set number ∙ ap (count_behind (counted_by form) number) (are.count number)
        ∙ sym (count_told state form counted number);
    list = λ typist.
        list_set typist ∙ ap (list_behind form typist) (are.list typist) ∙ sym (list_told state form typist);
    row = λ number key.
        grind (arith, told number key, are.row number key, row_told state form counted number are.valid key);
  }

-- Indexes

-- of the rows of a state some stand in an index without lists, and these are left
pub record IsPut (state index : State) (left : RowPlace → Option Row) : Type 0 where
  pub valid : is_valid index ≡ true
  pub counts : (number : ℕ) → count_of index number ≤ count_of state number
  pub rows : (number : ℕ) (key : RowKey) → row_at state number key
      ≡ option_or (left (place_at number key)) (row_at index number key)
  pub lists : index.lists ≡ []

module _ (state : State) (valid : is_valid state ≡ true) (place : RowPlace) (row : Row)
    (there : row_at state place.book place.key ≡ Some row) where
  -- a row of a state has its key
  pub row_key : row.key ≡ place.key
  row_key =
      grind (arith, same_key_equal row.key place.key, row_in_has_key place.key (rows_of state place.book), there)

  -- and may stand in its book
  pub row_fits : fits_count (count_of state place.book) row ≡ true
  row_fits = grind (arith, fits_row_at state place.book valid place.key, there)

module _ (state : State) (counts : BTreeMap ℕ ℕ) (lists : ListMap) (rows : RowPlace → Option Row)
    (are : AreOf state counts lists rows) where
  -- the rows of a state have their keys
  pub are_keyed : AreKeyed rows
  are_keyed place row there =
      row_key state are.valid place row (sym (are.row place.book place.key) ∙ there)

  -- and a record may follow it where they take it on
  pub follows_taken : (form : PayloadForm) → may_follow state form ≡ takes_on rows form
  follows_taken (Put book count row) = refl
  follows_taken (Drop book count key) = refl
  follows_taken (SetCount book count) = refl
  follows_taken (Note book count key cand) =
      ap (λ (row : Option Row). takes_note row cand count) (sym (are.row book key))
  follows_taken (SetList typist books) = refl

module _ (state index : State) (rows rest : RowPlace → Option Row) (place : RowPlace) (row : Row)
    (valid : is_valid state ≡ true) (put : IsPut state index rows) (first : rows place ≡ Some row)
    (taken : IsChanged rows rest place None) where
  -- a row that is left is one of the state
  pub left_there : row_at state place.book place.key ≡ Some row
  left_there = grind (arith, put.rows place.book place.key, first)

  -- it can be put
  pub put_next : (count : ℕ) → count ≡ count_of state place.book
      → IsPut state (state_with index place.book count row.key (Some row)) rest
  put_next count is = record {
    valid = valid_put index put.valid place.book count row fits later;
    counts = λ number. grind (arith, is, count_told index (Put place.book count row) later number, put.counts number);
    rows = λ number key. grind (
      arith,
      row_told index (Put place.book count row) later number put.valid key,
      place_changed rows rest place None taken number key,
      put.rows number key,
      row_key state valid place row left_there,
      same_key_equal row.key key,
      left_there,
    );
    lists = put.lists;
  }
    where
      fits : fits_count count row ≡ true
      fits = subst (λ (n : ℕ). fits_count n row ≡ true) (sym is) (row_fits state valid place row left_there)

      later : count_of index place.book ≤ count
      later = subst (λ (n : ℕ). count_of index place.book ≤ n) (sym is) (put.counts place.book)

-- these counts have those that an index gets, some of which are left
pub record IsCounted (all left : BTreeMap ℕ ℕ) (before now : State) : Type 0 where
  pub valid : is_valid now ≡ true
  pub rows : (number : ℕ) (key : RowKey) → row_at now number key ≡ row_at before number key
  pub below : (number : ℕ) → count_of now number ≤ count_in all number
  pub counts : (number : ℕ) → count_in all number ≡ unwrap_or (get nat_cmp left number) (count_of now number)
  pub lists : now.lists ≡ before.lists

module _ (all left rest : BTreeMap ℕ ℕ) (before now : State) (counted : IsCounted all left before now)
    (book count : ℕ) (first : get nat_cmp left book ≡ Some count) (updates : Updates nat_cmp left rest book None) where
  -- a count that is left is one of all
  count_there : count_in all book ≡ count
  count_there = counted.counts book ∙ ap (λ (found : Option ℕ). unwrap_or found (count_of now book)) first

  count_later : count_of now book ≤ count
  count_later = subst (λ (n : ℕ). count_of now book ≤ n) count_there (counted.below book)

  -- it can be set
  pub count_next : IsCounted all rest before (state_counted now book count)
  count_next = record {
    valid = valid_counted now counted.valid book count count_later;
    rows = λ number key.
        grind (
          arith,
          row_told now (SetCount book count) count_later number counted.valid key,
          counted.rows number key,
        );
    below = λ number. grind (
      arith,
      count_told now (SetCount book count) count_later number,
      counted.below number,
      count_there,
    );
    counts = λ number. grind (
      arith,
      number_updated left rest book None updates number,
      count_told now (SetCount book count) count_later number,
      counted.counts number,
      count_there,
    );
    lists = still (count == 0);
  }
    where
      still : (b : Bool) → (cond b now (record now {
        books = with_book (record { number = book; count = count; rows = rows_of now book }) now.books;
      })).lists ≡ before.lists
      still true = counted.lists
      still false = counted.lists

-- states with the same books have the same counts and the same rows
pub same_counts : (state other : State) → state.books ≡ other.books → (number : ℕ)
    → count_of state number ≡ count_of other number
same_counts state other same number =
    ap (λ (books : List NumberedBook). count_of (record { books = books; lists = [] }) number) same

pub same_books_rows : (state other : State) → state.books ≡ other.books → (number : ℕ) (key : RowKey)
    → row_at state number key ≡ row_at other number key
same_books_rows state other same number key =
    ap (λ (books : List NumberedBook). row_at (record { books = books; lists = [] }) number key) same

-- these lists have those that an index gets, some of which are left
pub record IsListed (all left : ListMap) (before now : State) : Type 0 where
  pub valid : is_valid now ≡ true
  pub books : now.books ≡ before.books
  pub lists : (typist : ℕ) → list_among all typist ≡ unwrap_or (get nat_cmp left typist) (shared_books now typist)

-- all of them at first
pub none_listed : (all : ListMap) (now : State) → is_valid now ≡ true → now.lists ≡ [] → IsListed all all now now
none_listed all now valid none = record {
  valid = valid;
  books = refl;
  lists = λ typist.
      ap (unwrap_or (get nat_cmp all typist))
      (sym (ap (λ (lists : List TypistList). listed_books (list_in typist lists)) none));
}

module _ (all left rest : ListMap) (before now : State) (listed : IsListed all left before now)
    (typist : ℕ) (books : List ℕ) (first : get nat_cmp left typist ≡ Some books)
    (updates : Updates nat_cmp left rest typist None) (is : is_book_list books ≡ true) where
  -- a list that is left is one of all
  list_there : list_among all typist ≡ books
  list_there =
      listed.lists typist ∙ ap (λ (found : Option (List ℕ)). unwrap_or found (shared_books now typist)) first

  -- it can be given
  pub list_next : IsListed all rest before (state_listed now typist books)
  list_next = record {
    valid = is_valid_listed typist books is now listed.valid;
    books = listed.books;
    lists = λ other. grind (
      arith,
      updates.0 other,
      unsigned_tied typist other,
      listed_then now typist books other,
      listed.lists other,
      list_there,
    );
  }
