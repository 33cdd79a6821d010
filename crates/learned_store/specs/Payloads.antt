-- What the record of a learned file says of a book, or of a typist's list of books, and its payload. All numbers are
-- written with the least byte first.
use Rattle.std.specs.Prelude.{◌≡◌, ⊤, ℕ, ◌+◌, ◌^◌, ◌≤◌, Bool, true, false, ◌&&◌, nat_le, nat_lt, Option, None, Some}
use Rattle.std.specs.Prelude.{List, ◌∷◌, ◌++◌, encode_utf8_all, length}
use Rattle.std.specs.Int.{w16, w64}
use Rattle.std.specs.List.{flat_map, list_all}
use Rattle.std.specs.Option.{option_map_or}
use Rattle.std.specs.Str.{all_scalars}
use Rattle.exact_readers.specs.Numbers.{number_bytes}
use Rattle.skk_text.specs.Counts.{last_count}
use Rattle.skk_calls.specs.declared.call.Call.{Call}
use Rattle.skk_calls.specs.declared.call.Call.TheVariants.{Lookup, Complete, Learn, Purge, Annotate, Share, Unlearn}
use Rattle.skk_calls.specs.declared.part.Part.{Part}
use Rattle.skk_calls.specs.declared.part.Part.TheVariants.{Nasi, Ari}
use Rattle.skk_text.specs.Text.{byte_len}
use Rattle.skk_calls.specs.BookLists.{is_book_list}
use Rattle.skk_calls.specs.Canonical.{canonical, item, line_limit}
use Rattle.skk_calls.specs.Learning.{learnt, purged, annotated, unlearnt}
use Rattle.skk_calls.specs.Rows.{RowKey, Cand, Row, is_row_key, is_cand}
use Rattle.skk_calls.specs.States.{State, row_at, count_of, state_with, state_listed, fits_count}
use Rattle.learned_store.specs.declared.form.PayloadForm.{PayloadForm}
use Rattle.learned_store.specs.declared.form.PayloadForm.TheVariants.{Put, Drop, SetCount, Note, SetList}
use Rattle.learn_index.specs.Records.{state_counted, state_without}

-- the number of a book in two bytes
abbrev pub book_number : ℕ → List ℕ
book_number number = number_bytes w16 number

-- the number of a typist in two bytes
abbrev pub typist_number : ℕ → List ℕ
typist_number number = number_bytes w16 number

-- a count or a stamp in eight bytes
abbrev pub wide_number : ℕ → List ℕ
wide_number number = number_bytes w64 number

-- the byte of a part of a dictionary
abbrev pub part_byte : Part → ℕ
part_byte Nasi = 0
part_byte Ari = 1

-- the payload that puts a row into a book of this number, which then has this count
abbrev pub put_bytes : ℕ → ℕ → Row → List ℕ
put_bytes book count row =
    1 ∷ (book_number book ++ (wide_number count ++ (wide_number row.stamp
    ++ part_byte row.key.part ∷ encode_utf8_all (canonical row))))

-- the payload that takes the row of a key out of a book, which then has this count
abbrev pub drop_bytes : ℕ → ℕ → RowKey → List ℕ
drop_bytes book count key =
    2 ∷ (book_number book ++ (wide_number count ++ part_byte key.part ∷ encode_utf8_all key.reading))

-- the payload that gives a book this count
abbrev pub count_bytes : ℕ → ℕ → List ℕ
count_bytes book count = 3 ∷ (book_number book ++ wide_number count)

-- the bytes of a key and a candidate: those of the part, of the reading's length in bytes, of the reading, and of the
-- candidate as an item, to the end
abbrev pub noted_bytes : RowKey → Cand → List ℕ
noted_bytes key cand =
    part_byte key.part ∷ byte_len key.reading ∷ (encode_utf8_all key.reading ++ encode_utf8_all (item cand))

-- the payload that gives the candidate with a word of a row its note, in a book which then has this count
abbrev pub note_bytes : ℕ → ℕ → RowKey → Cand → List ℕ
note_bytes book count key cand = 4 ∷ (book_number book ++ (wide_number count ++ noted_bytes key cand))

-- the payload that gives a typist a list of books: the typist, how many books there are, and their numbers in order
abbrev pub list_bytes : ℕ → List ℕ → List ℕ
list_bytes typist books = 5 ∷ (typist_number typist ++ length books ∷ flat_map book_number books)

-- the number of the book of which a record speaks, and the count that it gives the book. That of a typist's list speaks
-- of no book
abbrev pub counted_by : PayloadForm → Option (ℕ × ℕ)
counted_by (Put book count row) = Some (book, count)
counted_by (Drop book count key) = Some (book, count)
counted_by (SetCount book count) = Some (book, count)
counted_by (Note book count key cand) = Some (book, count)
counted_by (SetList typist books) = None

-- the count that a record gives its book, where it speaks of one, is not below the one that the book has
abbrev pub CountsOn : State → Option (ℕ × ℕ) → Type 0
CountsOn state None = ⊤
CountsOn state (Some counted) = count_of state counted.0 ≤ counted.1

-- the version of a learned file that first has a record
abbrev pub first_version : PayloadForm → ℕ
first_version (Put book count row) = 1
first_version (Drop book count key) = 1
first_version (SetCount book count) = 1
first_version (Note book count key cand) = 2
first_version (SetList typist books) = 3

-- the version that a file gets which is filled: the newest, that of the last records that were added to the forms
abbrev pub newest_version : ℕ
newest_version = 3

-- the payload of a record
abbrev pub payload_of : PayloadForm → List ℕ
payload_of (Put book count row) = put_bytes book count row
payload_of (Drop book count key) = drop_bytes book count key
payload_of (SetCount book count) = count_bytes book count
payload_of (Note book count key cand) = note_bytes book count key cand
payload_of (SetList typist books) = list_bytes typist books

-- the number of a book or of a typist that its bytes can hold
abbrev pub is_held : ℕ → Bool
is_held number = nat_lt number (2 ^ 16)

-- the number of a book and a count that their bytes can hold
abbrev pub are_held : ℕ → ℕ → Bool
are_held book count = is_held book && nat_le count last_count

-- a record may be written: its numbers are held, its row may stand in a book of its count, its key and its candidate
-- are valid, a note has a count, its books are a list of books, and what it spells is of characters
abbrev pub is_sound : PayloadForm → Bool
is_sound (Put book count row) = are_held book count && (fits_count count row && all_scalars (canonical row))
is_sound (Drop book count key) = are_held book count && (is_row_key key && all_scalars key.reading)
is_sound (SetCount book count) = are_held book count
is_sound (Note book count key cand) =
    are_held book count && (nat_le 1 count && (is_row_key key && (is_cand cand && (all_scalars key.reading
    && all_scalars (item cand)))))
is_sound (SetList typist books) = is_held typist && (is_book_list books && list_all is_held books)

-- a candidate of the row that a key has may get its note: there is one, and its line is not too long then
abbrev pub takes_note : Option Row → Cand → ℕ → Bool
takes_note None cand count = false
takes_note (Some row) cand count = nat_le (byte_len (canonical (annotated (Some row) row.key cand count))) line_limit

-- a record may stand behind those that leave a state: a note where its row takes it, and every other record
abbrev pub may_follow : State → PayloadForm → Bool
may_follow state (Put book count row) = true
may_follow state (Drop book count key) = true
may_follow state (SetCount book count) = true
may_follow state (Note book count key cand) = takes_note (row_at state book key) cand count
may_follow state (SetList typist books) = true

-- in a file of a version, at a state, a payload says this: it is what a record is written as that the version has, that
-- may be written and may stand there, and whose count, where it gives one, is not below that of its book
pub record Says (version : ℕ) (state : State) (payload : List ℕ) (form : PayloadForm) : Type 0 where
  pub known : nat_le (first_version form) version ≡ true
  pub sound : is_sound form ≡ true
  pub counted : CountsOn state (counted_by form)
  pub follows : may_follow state form ≡ true
  pub is : payload ≡ payload_of form

-- in a file of a version, at a state, a payload is none of the forms
abbrev pub SaysNothing : ℕ → State → List ℕ → Type 0
SaysNothing version state payload = (form : PayloadForm) → Says version state payload form → ⊥

-- the state after a record
abbrev pub state_told : State → PayloadForm → State
state_told state (Put book count row) = state_with state book count row.key (Some row)
state_told state (Drop book count key) = state_without state book count key
state_told state (SetCount book count) = state_counted state book count
state_told state (Note book count key cand) =
    state_with state book count key (Some (annotated (row_at state book key) key cand count))
state_told state (SetList typist books) = state_listed state typist books

-- what a record says of a key that has this row now, or none
abbrev pub row_told : ℕ → ℕ → RowKey → Option Row → PayloadForm
row_told book count key None = Drop book count key
row_told book count key (Some row) = Put book count row

-- what the record of an annotation says, after which the book has a count: on a row that is there the candidate with
-- its note, and else the row after it
abbrev pub note_told : ℕ → ℕ → RowKey → Cand → Option Row → PayloadForm
note_told book count key cand None = Put book count (annotated None key cand count)
note_told book count key cand (Some row) = Note book count key cand

-- what the record of a call says where the call changes a state. A look-up and a completion have none
abbrev pub change_told : State → Call → Option PayloadForm
change_told state (Lookup who key okuri) = None
change_told state (Complete who prefix) = None
change_told state (Learn book key okuri cand) =
    let count = count_of state book + 1 in
    Some (Put book count (learnt (row_at state book key) key okuri cand count))
change_told state (Purge book key word) =
    let count = count_of state book + 1 in
    Some (Put book count (purged (row_at state book key) key word count))
change_told state (Annotate book key cand) =
    Some (note_told book (count_of state book + 1) key cand (row_at state book key))
change_told state (Share who books) = Some (SetList who books)
change_told state (Unlearn learned) =
    Some (row_told learned.book (count_of state learned.book) learned.key (unlearnt learned))

-- the version that a call needs where it changes a state: the first that has its record
abbrev pub version_needed : State → Call → ℕ
version_needed state call = option_map_or first_version (change_told state call) 1
