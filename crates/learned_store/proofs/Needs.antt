-- What a call needs in the learned file is what the record of its change needs there.
use Rattle.std.proofs.Common.{◌≡◌, ℕ, ◌+◌, ◌*◌, Option, None, Some, List, [], ◌∷◌, ◌++◌, length, encode_utf8_all}
use Rattle.std.proofs.Common.{refl, arith, length-append}
use Rattle.std.specs.List.{flat_map}
use Rattle.exact_readers.specs.NumberLaws.{told_16, told_64}
use Rattle.skk_calls.specs.declared.call.Call.{Call}
use Rattle.skk_calls.specs.declared.call.Call.TheVariants.{Lookup, Complete, Learn, Purge, Annotate, Share, Unlearn}
use Rattle.skk_calls.specs.Canonical.{canonical, item}
use Rattle.skk_calls.specs.Histories.{put_need, drop_need, restored_need, note_need, annotated_need}
use Rattle.skk_calls.specs.Histories.{list_need, need}
use Rattle.skk_calls.specs.Rows.{RowKey, Cand, Row}
use Rattle.skk_calls.specs.Learning.{learnt, purged, annotated}
use Rattle.skk_calls.specs.States.{State, row_at, count_of}
use Rattle.skk_journal.specs.RecordLaws.{need_is}
use Rattle.skk_journal.specs.Records.{need as record_need}
use Rattle.learned_store.specs.declared.form.PayloadForm.{PayloadForm}
use Rattle.learned_store.specs.Payloads.{book_number, wide_number, part_byte, put_bytes, drop_bytes, count_bytes}
use Rattle.learned_store.specs.Payloads.{note_bytes, list_bytes, typist_number, payload_of, row_told, note_told}
use Rattle.learned_store.specs.Payloads.{change_told}

-- the record of a row needs 25 bytes and those of its line
pub put_needs : (book count : ℕ) (row : Row) → put_need row ≡ record_need (put_bytes book count row)
put_needs book count row =
    let line = part_byte row.key.part ∷ encode_utf8_all (canonical row) in
    omega (
      arith,
      need_is (put_bytes book count row),
      length-append (book_number book) (wide_number count ++ (wide_number row.stamp ++ line)),
      length-append (wide_number count) (wide_number row.stamp ++ line),
      length-append (wide_number row.stamp) line,
      told_16.long book,
      told_64.long count,
      told_64.long row.stamp,
    )

-- the record of a row that is taken out needs 17 bytes and those of its reading
pub drop_needs : (book count : ℕ) (key : RowKey) → drop_need key ≡ record_need (drop_bytes book count key)
drop_needs book count key =
    let reading = part_byte key.part ∷ encode_utf8_all key.reading in
    omega (
      arith,
      need_is (drop_bytes book count key),
      length-append (book_number book) (wide_number count ++ reading),
      length-append (wide_number count) reading,
      told_16.long book,
      told_64.long count,
    )

-- a payload that gives a count has eleven bytes
pub counted_long : (book count : ℕ) → length (count_bytes book count) ≡ 11
counted_long book count =
    omega (arith, length-append (book_number book) (wide_number count), told_16.long book, told_64.long count)

-- the record of a note needs 18 bytes and those of its reading and of its item
pub note_needs : (book count : ℕ) (key : RowKey) (cand : Cand) → note_need key cand
    ≡ record_need (note_bytes book count key cand)
note_needs book count key cand =
    let reading = encode_utf8_all key.reading in
    let text = encode_utf8_all (item cand) in
    let behind = part_byte key.part ∷ length reading ∷ (reading ++ text) in
    omega (
      arith,
      need_is (note_bytes book count key cand),
      length-append (book_number book) (wide_number count ++ behind),
      length-append (wide_number count) behind,
      length-append reading text,
      told_16.long book,
      told_64.long count,
    )

-- the numbers of books have two bytes each
numbers_long : (books : List ℕ) → length (flat_map book_number books) ≡ 2 * length books
numbers_long [] = refl
numbers_long (book ∷ books) =
    omega (
      arith,
      length-append (book_number book) (flat_map book_number books),
      told_16.long book,
      numbers_long books,
    )

-- a payload that gives a list has four bytes and those of its numbers
pub list_long : (typist : ℕ) (books : List ℕ) → length (list_bytes typist books) ≡ 4 + 2 * length books
list_long typist books =
    omega (
      arith,
      length-append (typist_number typist) (length books ∷ flat_map book_number books),
      told_16.long typist,
      numbers_long books,
    )

-- so its record needs nine bytes and those of its numbers
pub list_needs : (typist : ℕ) (books : List ℕ) → list_need books ≡ record_need (list_bytes typist books)
list_needs typist books = omega (arith, need_is (list_bytes typist books), list_long typist books)

annotated_needs : (book count : ℕ) (key : RowKey) (cand : Cand) (row : Option Row)
    → annotated_need row key cand count ≡ record_need (payload_of (note_told book count key cand row))
annotated_needs book count key cand None = put_needs book count (annotated None key cand count)
annotated_needs book count key cand (Some row) = note_needs book count key cand

restored_needs : (book count : ℕ) (key : RowKey) (row : Option Row)
    → restored_need key row ≡ record_need (payload_of (row_told book count key row))
restored_needs book count key None = drop_needs book count key
restored_needs book count key (Some row) = put_needs book count row

pub needs_record : (state : State) (call : Call) (form : PayloadForm) → change_told state call ≡ Some form
    → need state call ≡ record_need (payload_of form)
needs_record state (Lookup who key okuri) form is = absurd (cc)
needs_record state (Complete who prefix) form is = absurd (cc)
needs_record state (Learn book key okuri cand) form is =
    let count = count_of state book + 1 in
    grind (arith, put_needs book count (learnt (row_at state book key) key okuri cand count))
needs_record state (Purge book key word) form is =
    let count = count_of state book + 1 in
    grind (arith, put_needs book count (purged (row_at state book key) key word count))
needs_record state (Annotate book key cand) form is =
    grind (arith, annotated_needs book (count_of state book + 1) key cand (row_at state book key))
needs_record state (Share who books) form is = grind (arith, list_needs who books)
needs_record state (Unlearn learned) form is =
    grind (arith, restored_needs learned.book (count_of state learned.book) learned.key learned.before)
