-- The records that a compaction writes of a state.
use Rattle.std.specs.Prelude.{ℕ, Bool, ◌&&◌, List, [], ◌∷◌, ◌++◌, map}
use Rattle.std.specs.List.{flat_map, list_all}
use Rattle.skk_calls.specs.declared.book.NumberedBook.{NumberedBook}
use Rattle.skk_calls.specs.declared.book_list.TypistList.{TypistList}
use Rattle.skk_calls.specs.Rows.{Row}
use Rattle.skk_calls.specs.States.{State}
use Rattle.learned_store.specs.declared.form.PayloadForm.{PayloadForm}
use Rattle.learned_store.specs.declared.form.PayloadForm.TheVariants.{Put, SetCount, SetList}
use Rattle.learned_store.specs.Payloads.{are_held, is_sound}
use Rattle.learned_store.specs.Reading.{is_written_row}

-- the records of a book of a number and a count with these rows: each row is put, or the count set where there is none
abbrev pub row_forms : ℕ → ℕ → List Row → List PayloadForm
row_forms number count [] = SetCount number count ∷ []
row_forms number count (row ∷ rows) = map (Put number count) (row ∷ rows)

-- the records of a book
abbrev pub book_forms : NumberedBook → List PayloadForm
book_forms book = row_forms book.number book.count book.rows

-- the record of a typist's list
abbrev pub list_form : TypistList → PayloadForm
list_form list = SetList list.typist list.books

-- the records that a compaction writes of a state: those of each book, one behind another, and behind them that of each
-- list
abbrev pub compacted : State → List PayloadForm
compacted state = flat_map book_forms state.books ++ map list_form state.lists

-- the number and the count of a book are held, and each of its rows may be written
abbrev pub is_written_book : NumberedBook → Bool
is_written_book book = are_held book.number book.count && list_all (is_written_row book.count) book.rows

-- the record of a typist's list may be written
abbrev pub is_written_list : TypistList → Bool
is_written_list list = is_sound (list_form list)

-- each book of a state may be written, and so may each list
abbrev pub is_written : State → Bool
is_written state = list_all is_written_book state.books && list_all is_written_list state.lists
