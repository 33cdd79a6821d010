-- What may be written fits a record.
use Rattle.std.proofs.Common.{◌≡◌, ℕ, ◌+◌, ◌≤◌, nat_le, true, List, length, arith}
use Rattle.std.proofs.lemmas.Bool.{and_parts, leb-true}
use Rattle.std.specs.Option.{is_none}
use Rattle.skk_text.specs.Text.{byte_len}
use Rattle.skk_calls.specs.BookLists.{book_limit, has_count, is_book_list, twice_at}
use Rattle.skk_calls.specs.Canonical.{canonical, is_good, item, line_limit}
use Rattle.skk_calls.specs.Rows.{Row}
use Rattle.skk_journal.specs.RecordLaws.{need_is}
use Rattle.skk_journal.specs.Records.{IsSized}
use Rattle.learned_store.specs.declared.form.PayloadForm.{PayloadForm}
use Rattle.learned_store.specs.declared.form.PayloadForm.TheVariants.{Put, Drop, SetCount, Note, SetList}
use Rattle.learned_store.specs.Payloads.{put_bytes, drop_bytes, note_bytes, list_bytes, is_sound, payload_of}
use Rattle.learned_store.proofs.ItemLengths.{item_most, short_reading}
use Rattle.learned_store.proofs.Needs.{put_needs, drop_needs, counted_long, list_long, note_needs}
use Rattle.learned_store.proofs.SoundForms.{put_parts, drop_parts, list_parts, note_parts}

-- a good row has a line that is not too long
good_line : (row : Row) → is_good row ≡ true → byte_len (canonical row) ≤ line_limit
good_line row good = grind arith

-- a list of books has eight at most
few_books : (books : List ℕ) → is_book_list books ≡ true → length books ≤ book_limit
few_books books is =
    leb-true (length books) book_limit
    (and_parts (nat_le 1 (length books)) (nat_le (length books) book_limit)
    (and_parts (has_count books) (is_none (twice_at books)) is).0).1

-- so a payload that gives one fits a record
pub list_sized : (typist : ℕ) (books : List ℕ) → is_book_list books ≡ true → IsSized (list_bytes typist books)
list_sized typist books is =
    let long = list_long typist books in
    let few = few_books books is in
    (omega (arith, long), omega (arith, long, few))

pub sound_sized : (form : PayloadForm) → is_sound form ≡ true → IsSized (payload_of form)
sound_sized (Put book count row) sound =
    let short = good_line row (put_parts book count row sound).written.good in
    let long = length (put_bytes book count row) in
    let needs : 25 + byte_len (canonical row) ≡ 5 + long = omega (
      arith,
      put_needs book count row,
      need_is (put_bytes book count row),
    ) in
    (omega (arith, needs), omega (arith, needs, short))
sound_sized (Drop book count key) sound =
    let short = short_reading key (drop_parts book count key sound).valid in
    let long = length (drop_bytes book count key) in
    let needs : 17 + byte_len key.reading ≡ 5 + long = omega (
      arith,
      drop_needs book count key,
      need_is (drop_bytes book count key),
    ) in
    (omega (arith, needs), omega (arith, needs, short))
sound_sized (SetCount book count) sound =
    let long = counted_long book count in (omega (arith, long), omega (arith, long))
sound_sized (Note book count key cand) sound =
    let parts = note_parts book count key cand sound in
    let long = length (note_bytes book count key cand) in
    let needs : 18 + byte_len key.reading + byte_len (item cand) ≡ 5 + long = omega (
      arith,
      note_needs book count key cand,
      need_is (note_bytes book count key cand),
    ) in
    (omega (arith, needs), omega (arith, needs, short_reading key parts.valid, item_most cand parts.cand_is))
sound_sized (SetList typist books) sound = list_sized typist books (list_parts typist books sound).valid
