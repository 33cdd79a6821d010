-- What was gathered of records, and the state that it stands for.
use Rattle.std.specs.Prelude.{◌≡◌, ℕ, ◌≤◌, ◌==◌, nat_le, Bool, true, false, if◌then◌else◌, cond, List, [], map}
use Rattle.std.specs.Prelude.{Option, None, Some}
use Rattle.std.specs.BTreeMap as tree
use Rattle.std.specs.HashMap as hash
use Rattle.std.specs.Option.{unwrap_or}
use Rattle.std.specs.List.{IsDistinct}
use Rattle.std.specs.Map.{keys_of, lookup}
use Rattle.std.specs.Ordering.{eq_by_cmp, is_eq, nat_cmp}
use Rattle.skk_calls.specs.BookLists.{shared_alone}
use Rattle.skk_calls.specs.Learning.{annotated}
use Rattle.skk_calls.specs.Rows.{RowKey, Cand, Row, same_key}
use Rattle.skk_calls.specs.States.{State, count_of, row_at, shared_books, is_valid}
use Rattle.learned_store.specs.declared.form.PayloadForm.{PayloadForm}
use Rattle.learned_store.specs.declared.form.PayloadForm.TheVariants.{Put, Drop, SetCount, Note, SetList}
use Rattle.learned_store.specs.declared.gathered.Gathered.{Gathered}
use Rattle.learned_store.specs.declared.placed_row.PlacedRow.{PlacedRow}
use Rattle.learned_store.specs.declared.row_place.RowPlace.{RowPlace}
use Rattle.learned_store.specs.Payloads.{Says, counted_by, state_told, takes_note}
use Rattle.learned_store.specs.Reading.{IsSpelled}
use Rattle.learned_store.specs.RowPlaces.{place_cmp}

-- the count of a book among counts, 0 where it has none
abbrev pub count_in : tree.BTreeMap ℕ ℕ → ℕ → ℕ
count_in counts number = unwrap_or (tree.get nat_cmp counts number) 0

-- the count that a record gives its book, where it speaks of one, is not below that among counts
abbrev pub counts_on : tree.BTreeMap ℕ ℕ → Option (ℕ × ℕ) → Bool
counts_on counts None = true
counts_on counts (Some counted) = nat_le (count_in counts counted.0) counted.1

-- lists of books by their typists
abbrev pub ListMap : Type 0
ListMap = tree.BTreeMap ℕ (List ℕ)

-- the list of books of a typist among lists, that of the shared book alone where there is none
abbrev pub list_among : ListMap → ℕ → List ℕ
list_among lists typist = unwrap_or (tree.get nat_cmp lists typist) shared_alone

-- the row of a place among rows that lie as they came
abbrev pub row_among : {S : Type 0} → hash.HashMap RowPlace Row S → RowPlace → Option Row
row_among rows place = hash.get (eq_by_cmp place_cmp) rows place

-- rows with their places, as entries of a map
abbrev pub placed_entries : List PlacedRow → List (RowPlace × Row)
placed_entries rows = map (λ row. (row.place, row.row)) rows

-- the places of rows differ
abbrev pub are_apart : List PlacedRow → Type 0
are_apart rows = IsDistinct (eq_by_cmp place_cmp) (keys_of (placed_entries rows))

-- the row of a place among rows with their places
abbrev pub row_placed : List PlacedRow → RowPlace → Option Row
row_placed rows place = lookup (eq_by_cmp place_cmp place) (placed_entries rows)

-- the place of a key in a book
abbrev pub place_at : ℕ → RowKey → RowPlace
place_at number key = record { book = number; key = key }

-- what a record counts is the book of a number
abbrev pub is_counted : Option (ℕ × ℕ) → ℕ → Bool
is_counted None number = false
is_counted (Some counted) number = counted.0 == number

-- the count of the book of a number behind what a record counts, where it was this one
abbrev pub count_behind : Option (ℕ × ℕ) → ℕ → ℕ → ℕ
count_behind None number before = before
count_behind (Some counted) number before = if counted.0 == number then counted.1 else before

-- the list of a typist behind a record, where it was this one
abbrev pub list_behind : PayloadForm → ℕ → List ℕ → List ℕ
list_behind (Put book count row) typist before = before
list_behind (Drop book count key) typist before = before
list_behind (SetCount book count) typist before = before
list_behind (Note book count key cand) typist before = before
list_behind (SetList own books) typist before = if own == typist then books else before

-- the row of a key of the book that a record tells of, where it was this one
abbrev pub row_told_of : PayloadForm → RowKey → Option Row → Option Row
row_told_of (Put book count row) key before = cond (same_key row.key key) (Some row) before
row_told_of (Drop book count gone) key before = cond (same_key gone key) None before
row_told_of (SetCount book count) key before = before
row_told_of (Note book count own cand) key before =
    cond (same_key own key) (Some (annotated before own cand count)) before
row_told_of (SetList typist books) key before = before

-- rows were changed as a record tells
abbrev pub IsTold : PayloadForm → (RowPlace → Option Row) → (RowPlace → Option Row) → Type 0
IsTold form before after =
    (number : ℕ) (key : RowKey) → after (place_at number key)
    ≡ cond (is_counted (counted_by form) number) (row_told_of form key (before (place_at number key)))
    (before (place_at number key))

-- each row that is found has the key of its place
abbrev pub AreKeyed : (RowPlace → Option Row) → Type 0
AreKeyed rows = (place : RowPlace) (row : Row) → rows place ≡ Some row → row.key ≡ place.key

-- rows take on what a record tells: a note where its row is there, and not too long with it
abbrev pub takes_on : (RowPlace → Option Row) → PayloadForm → Bool
takes_on rows (Put book count row) = true
takes_on rows (Drop book count key) = true
takes_on rows (SetCount book count) = true
takes_on rows (Note book count key cand) = takes_note (rows (place_at book key)) cand count
takes_on rows (SetList typist books) = true

-- these counts and lists, and the rows that are found at places, are those of a valid state
pub record AreOf (state : State) (counts : tree.BTreeMap ℕ ℕ) (lists : ListMap) (row_of : RowPlace → Option Row)
    : Type 0 where
  pub valid : is_valid state ≡ true
  pub count : (number : ℕ) → count_in counts number ≡ count_of state number
  pub list : (typist : ℕ) → list_among lists typist ≡ shared_books state typist
  pub row : (number : ℕ) (key : RowKey) → row_of (record { book = number; key = key }) ≡ row_at state number key

-- what was gathered is a valid state
abbrev pub Gathers : Gathered → State → Type 0
Gathers gathered state = AreOf state gathered.counts gathered.lists (row_among gathered.rows)

-- in a file of a version, at a state, a payload says something, and this was gathered when that was added
abbrev pub IsAdded : ℕ → State → List ℕ → Gathered → Type 0
IsAdded version state payload after =
    (form : PayloadForm) × Says version state payload form × Gathers after (state_told state form)

-- the row of a place has these bytes as its part and line, and got this stamp
pub record IsRestamped (before after : RowPlace → Option Row) (place : RowPlace) (stamp : ℕ) (bytes : List ℕ)
    : Type 0 where
  pub row : Row
  pub there : before place ≡ Some row
  pub spelled : IsSpelled row bytes
  pub changed : (other : RowPlace)
      → after other ≡ cond (is_eq (place_cmp place other)) (Some (record row { stamp = stamp })) (before other)

-- the row of a place took the note of a candidate, and got this stamp
pub record IsAnnotated (before after : RowPlace → Option Row) (place : RowPlace) (cand : Cand) (stamp : ℕ)
    : Type 0 where
  pub row : Row
  pub there : before place ≡ Some row
  pub takes : takes_note (Some row) cand stamp ≡ true
  pub changed : (other : RowPlace)
      → after other
      ≡ cond (is_eq (place_cmp place other)) (Some (annotated (Some row) row.key cand stamp)) (before other)

-- a valid state has the rows of another and no list, and none of its counts is above
pub record HasRows (other state : State) : Type 0 where
  pub valid : is_valid state ≡ true
  pub counts : (number : ℕ) → count_of state number ≤ count_of other number
  pub rows : (number : ℕ) (key : RowKey) → row_at state number key ≡ row_at other number key
  pub lists : state.lists ≡ []
