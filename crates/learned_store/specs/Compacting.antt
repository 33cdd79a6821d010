-- What a compaction writes of the books and lists in memory, one by one.
use Rattle.std.specs.Prelude.{ℕ, min, if◌then◌else◌, List, []}
use Rattle.std.specs.List.{flat_map}
use Rattle.skk_text.specs.Counts.{last_count}
use Rattle.skk_calls.specs.declared.book.NumberedBook.{NumberedBook}
use Rattle.skk_calls.specs.declared.book_list.TypistList.{TypistList}
use Rattle.skk_calls.specs.Histories.{rows_need}
use Rattle.skk_journal.specs.Records.{record_bytes}
use Rattle.learn_index.specs.Kept.{has_changed}
use Rattle.learned_store.specs.declared.form.PayloadForm.{PayloadForm}
use Rattle.learned_store.specs.Payloads.{payload_of}
use Rattle.learned_store.specs.Compacted.{book_forms, list_form}

-- the record of a form, behind an open gate
abbrev pub form_record : PayloadForm → List ℕ
form_record form = record_bytes (payload_of form)

-- the records of a book, none where it has not changed
abbrev pub book_records : NumberedBook → List ℕ
book_records book = if has_changed book then flat_map form_record (book_forms book) else []

-- the record of a list
abbrev pub list_record : TypistList → List ℕ
list_record list = form_record (list_form list)

-- the bytes that the records of a book need
abbrev pub book_need : NumberedBook → ℕ
book_need book = if has_changed book then rows_need book.rows else 0

-- a number, or the last one where it is greater
abbrev pub capped : ℕ → ℕ
capped n = min n last_count
