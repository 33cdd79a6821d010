-- What a compaction writes of the books and lists in memory, one by one, and what that needs.
use Rattle.std.proofs.Common.{◌≡◌, ℕ, ◌+◌, ◌<◌, ◌≤◌, ◌^◌, ◌-◌, Bool, true, false, cond, not, ◌&&◌, ◌||◌, nat_le, nat_lt}
use Rattle.std.proofs.Common.{min, List, [], ◌∷◌, ◌++◌, map, length, take, get_or, refl, sym, ap, ◌∙◌, arith}
use Rattle.std.proofs.Common.{append_assoc}
use Rattle.std.specs.List.{filter, flat_map, list_all, sum_by}
use Rattle.std.proofs.lemmas.Bool.{and_parts, both_ways}
use Rattle.std.proofs.lemmas.Grind.{flat_map-append}
use Rattle.std.proofs.lemmas.Bool.Decides.{nat_tests}
use Rattle.std.proofs.lemmas.List.{append-nil, map-append, take_more}
use Rattle.std.proofs.lemmas.List.Folds.{list_all_at}
use Rattle.std.proofs.lemmas.List.Sums.{sum_by-cons, sum_by_more}
use Rattle.skk_text.specs.PairsLaws.{list_all-weaker}
use Rattle.skk_text.specs.Text.{byte_len}
use Rattle.skk_calls.specs.declared.book.NumberedBook.{NumberedBook}
use Rattle.skk_calls.specs.declared.book_list.TypistList.{TypistList}
use Rattle.skk_calls.specs.Canonical.{canonical, is_good, line_limit}
use Rattle.skk_calls.specs.Dictionary.{line_length}
use Rattle.skk_calls.specs.Histories.{list_need, put_need, least_end, rows_need, tight}
use Rattle.skk_calls.specs.Rows.{Row}
use Rattle.skk_calls.specs.States.{fits_count, is_book, rows_ascend}
use Rattle.skk_journal.specs.RecordLaws.{need_is}
use Rattle.skk_journal.specs.Records.{IsSized, framed}
use Rattle.learn_index.specs.Kept.{changed, has_changed, kept, numbered}
use Rattle.learn_index.specs.declared.book.LearnedBook.{LearnedBook}
use Rattle.learned_store.specs.declared.form.PayloadForm.{PayloadForm}
use Rattle.learned_store.specs.Payloads.{count_bytes, payload_of, put_bytes}
use Rattle.learned_store.specs.Compacted.{book_forms, compacted, list_form, row_forms}
use Rattle.learned_store.specs.Compacting.{book_need, book_records, form_record, list_record, capped}
use Rattle.learned_store.proofs.Needs.{put_needs, counted_long}

-- Items

-- what each item passes, the one at a place passes
pub holds_at : {X : Type 0} (p : X → Bool) (xs : List X) (i : ℕ) (x : X) → i < length xs → x ≡ get_or xs i x
    → list_all p xs ≡ true → p x ≡ true
holds_at p xs i x low at all = by (p x) refl
  where
    by : (b : Bool) → p x ≡ b → b ≡ true
    by true e = refl
    by false e = absurd (both_ways (list_all p xs) (list_all_at p xs i x low (ap p (sym at) ∙ e)) all)

-- Books

-- where the books that have changed may be, one that has changed may be
books_may : (books : List LearnedBook) → list_all is_book (filter has_changed (map numbered books)) ≡ true
    → list_all (λ book. not (has_changed (numbered book)) || is_book (numbered book)) books ≡ true
books_may [] all = refl
books_may (book ∷ books) all = by (has_changed (numbered book)) all (books_may books)
  where
    by : (b : Bool) → list_all is_book (cond b (numbered book ∷ filter has_changed (map numbered books))
        (filter has_changed (map numbered books))) ≡ true
        → (list_all is_book (filter has_changed (map numbered books)) ≡ true
        → list_all (λ other. not (has_changed (numbered other)) || is_book (numbered other)) books ≡ true)
        → ((not b || is_book (numbered book))
        && list_all (λ other. not (has_changed (numbered other)) || is_book (numbered other)) books) ≡ true
    by true may others =
        let parts =
        and_parts (is_book (numbered book)) (list_all is_book (filter has_changed (map numbered books))) may in
        let own = parts.0 in
        let later = others parts.1 in
        rw (own, later) refl
    by false may others = others may

-- of a test that passes where another does the other one is the answer
or_second : (a b : Bool) → a ≡ true → (not a || b) ≡ true → b ≡ true
or_second true b there either = either
or_second false b there either = absurd (both_ways false refl there)

pub book_may : (books : List LearnedBook) (i : ℕ) (book : LearnedBook) → i < length books
    → book ≡ get_or books i book → list_all is_book (filter has_changed (map numbered books)) ≡ true
    → has_changed (numbered book) ≡ true → is_book (numbered book) ≡ true
book_may books i book low at all there =
    or_second (has_changed (numbered book)) (is_book (numbered book)) there
    (holds_at (λ (b : LearnedBook). not (has_changed (numbered b)) || is_book (numbered b)) books i book low at
    (books_may books all))

-- a book whose count is not 0 has changed, and its records are those of its rows
pub has_count : (count : ℕ) → (count ≡ 0 → ⊥) → nat_lt 0 count ≡ true
has_count count some = grind (arith, nat_tests)

pub changed_book : (book : LearnedBook) → (book.count ≡ 0 → ⊥)
    → flat_map form_record (row_forms book.number book.count book.rows.items) ≡ book_records (numbered book)
changed_book book some =
    sym (ap (λ (b : Bool). cond b (flat_map form_record (book_forms (numbered book))) []) (has_count book.count some))

-- the rows of a book that may be are good
pub rows_good : (book : NumberedBook) → is_book book ≡ true → list_all is_good book.rows ≡ true
rows_good book may =
    let facts =
    and_parts (nat_le 1 book.count) (rows_ascend book.rows && list_all (fits_count book.count) book.rows) may in
    list_all-weaker (fits_count book.count) is_good (λ row fits. good row fits) book.rows
    (and_parts (rows_ascend book.rows) (list_all (fits_count book.count) book.rows) facts.1).1
  where
    good : (row : Row) → fits_count book.count row ≡ true → is_good row ≡ true
    good row fits = grind (arith, fits)

-- Records

framed_forms : (forms : List PayloadForm) → framed (map payload_of forms) ≡ flat_map form_record forms
framed_forms [] = refl
framed_forms (form ∷ forms) = ap (λ (l : List ℕ). form_record form ++ l) (framed_forms forms)

changed_records : (books : List NumberedBook)
    → flat_map form_record (flat_map book_forms (filter has_changed books)) ≡ flat_map book_records books
changed_records [] = refl
changed_records (book ∷ books) = by (has_changed book) (changed_records books)
  where
    by : (b : Bool)
        → flat_map form_record (flat_map book_forms (filter has_changed books)) ≡ flat_map book_records books
        → flat_map form_record
        (flat_map book_forms (cond b (book ∷ filter has_changed books) (filter has_changed books)))
        ≡ cond b (flat_map form_record (book_forms book)) [] ++ flat_map book_records books
    by true rest =
        flat_map-append form_record (book_forms book) (flat_map book_forms (filter has_changed books))
        ∙ ap (λ (l : List ℕ). flat_map form_record (book_forms book) ++ l) rest
    by false rest = rest

lists_records : (lists : List TypistList) → flat_map form_record (map list_form lists) ≡ flat_map list_record lists
lists_records [] = refl
lists_records (list ∷ lists) = ap (λ (l : List ℕ). list_record list ++ l) (lists_records lists)

-- the records of books and behind them of lists, one after another, are those of the compaction of the books that have
-- changed and of the lists
pub state_records : (books : List LearnedBook) (lists : List TypistList)
    → flat_map book_records (map numbered books) ++ flat_map list_record lists
    ≡ framed (map payload_of (compacted (changed (kept books lists))))
state_records books lists =
    let forms = flat_map book_forms (filter has_changed (map numbered books)) in
    sym (framed_forms (compacted (changed (kept books lists)))
    ∙ flat_map-append form_record forms (map list_form lists)
    ∙ ap (λ (l : List ℕ). l ++ flat_map form_record (map list_form lists)) (changed_records (map numbered books))
    ∙ ap (λ (l : List ℕ). flat_map book_records (map numbered books) ++ l) (lists_records lists))

-- a payload that puts a row has 20 bytes and those of its line
pub put_long : (book count : ℕ) (row : Row) → length (put_bytes book count row) ≡ 20 + byte_len (canonical row)
put_long book count row = omega (arith, put_needs book count row, need_is (put_bytes book count row))

-- a good row has a line that is not too long
pub good_line : (row : Row) → is_good row ≡ true → byte_len (canonical row) ≤ line_limit
good_line row good = grind arith

-- so it fits a record, and so does a payload that gives a count
pub put_sized : (book count : ℕ) (row : Row) → is_good row ≡ true → IsSized (put_bytes book count row)
put_sized book count row good =
    let long = put_long book count row in
    let short = good_line row good in
    (omega (arith, long), omega (arith, long, short))

pub count_sized : (book count : ℕ) → IsSized (count_bytes book count)
count_sized book count = let long = counted_long book count in (omega (arith, long), omega (arith, long))

-- one more piece was added
pub piece_added : {X Y : Type 0} (g : X → Y) (f : Y → List ℕ) (xs : List X) (i : ℕ) (x : X) (start old after : List ℕ)
    → i < length xs → x ≡ get_or xs i x → old ≡ start ++ flat_map f (map g (take i xs)) → after ≡ old ++ f (g x)
    → after ≡ start ++ flat_map f (map g (take (i + 1) xs))
piece_added {X} g f xs i x start old after low at so_far made =
    made ∙ ap (λ (l : List ℕ). l ++ f (g x)) so_far ∙ append_assoc start (flat_map f (map g (take i xs))) (f (g x))
    ∙ ap (λ (l : List ℕ). start ++ l) (sym more)
  where
    more : flat_map f (map g (take (i + 1) xs)) ≡ flat_map f (map g (take i xs)) ++ f (g x)
    more =
        ap (λ (ys : List X). flat_map f (map g ys))
        (take_more xs i x low ∙ ap (λ (y : X). take i xs ++ y ∷ []) (sym at))
        ∙ ap (flat_map f) (map-append g (take i xs) (x ∷ []))
        ∙ flat_map-append f (map g (take i xs)) (g x ∷ [])
        ∙ ap (λ (l : List ℕ). flat_map f (map g (take i xs)) ++ l) (append-nil (f (g x)))

-- What they need

changed_need : (books : List LearnedBook)
    → sum_by (λ book. rows_need book.rows) (filter has_changed (map numbered books))
    ≡ sum_by (λ book. book_need (numbered book)) books
changed_need [] = refl
changed_need (book ∷ books) =
    by (has_changed (numbered book)) (changed_need books)
    ∙ sym (sum_by-cons (λ (b : LearnedBook). book_need (numbered b)) book books)
  where
    by : (b : Bool) → sum_by (λ book. rows_need book.rows) (filter has_changed (map numbered books))
        ≡ sum_by (λ book. book_need (numbered book)) books
        → sum_by (λ book. rows_need book.rows)
        (cond b (numbered book ∷ filter has_changed (map numbered books)) (filter has_changed (map numbered books)))
        ≡ cond b (rows_need book.rows.items) 0 + sum_by (λ book. book_need (numbered book)) books
    by true rest =
        sum_by-cons (λ (b : NumberedBook). rows_need b.rows) (numbered book) (filter has_changed (map numbered books))
        ∙ ap (λ (n : ℕ). rows_need book.rows.items + n) rest
    by false rest = omega (arith, rest)

-- the tight end of the books that have changed, without lists, is what each book needs
pub books_tight : (books : List LearnedBook)
    → tight (changed (kept books [])) ≡ least_end + sum_by (λ book. book_need (numbered book)) books
books_tight books = omega (arith, changed_need books)

-- and with lists it is so much more as these need
pub lists_tight : (books : List LearnedBook) (lists : List TypistList) (end need last : ℕ)
    → end ≡ capped (tight (changed (kept books []))) → need ≡ capped (sum_by (λ list. list_need list.books) lists)
    → last ≡ min (end + need) (2 ^ 64 - 1) → last ≡ capped (tight (changed (kept books lists)))
lists_tight books lists end need last ends needs is = omega arith

-- one more item was counted, as far as a number can tell
pub sum_more : {X : Type 0} (f : X → ℕ) (xs : List X) (i : ℕ) (x : X) (start before need after : ℕ) → i < length xs
    → x ≡ get_or xs i x → before ≡ capped (start + sum_by f (take i xs)) → need ≡ capped (f x)
    → after ≡ min (before + need) (2 ^ 64 - 1) → after ≡ capped (start + sum_by f (take (i + 1) xs))
sum_more f xs i x start before need after low at so_far counted made =
    omega (arith, sum_by_more f xs i x low, ap f at)

-- so is a row, first 25 bytes and then its line
pub put_more : (rows : List Row) (i : ℕ) (row : Row) (before first long after : ℕ) → i < length rows
    → row ≡ get_or rows i row → before ≡ capped (sum_by put_need (take i rows)) → first ≡ min (before + 25) (2 ^ 64 - 1)
    → long ≡ line_length row → after ≡ min (first + long) (2 ^ 64 - 1)
    → after ≡ capped (sum_by put_need (take (i + 1) rows))
put_more rows i row before first long after low at so_far one line last =
    omega (arith, sum_by_more put_need rows i row low, ap put_need at)
