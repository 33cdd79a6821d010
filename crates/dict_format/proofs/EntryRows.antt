-- What entries come to has the rows that they list.
use Rattle.std.proofs.Common.{◌≡◌, ◌∙◌, ap, refl, arith, List, [], ◌∷◌, Result, Ok, Err, ℕ}
use Rattle.std.specs.List.{cons_option, fold}
use Rattle.std.specs.Result.{result_ok}
use Rattle.skk_calls.specs.Rows.{Row}
use Rattle.dict_format.specs.declared.file.Listed.{Listed}
use Rattle.dict_format.specs.declared.reason.LineReason.{LineReason}
use Rattle.dict_format.specs.EntryRows.{listed_rows, spelled_rows, with_row}
use Rattle.dict_format.specs.FileLines.{FileEntry, Lists, TakeAll, entries_of, none_listed}
use Rattle.dict_format.specs.Reading.{line_reading}
use Rattle.dict_format.proofs.FileEntries.{next_of, takes-is}

-- the rows behind an entry and those that others spell
rows-next : (before : Listed) (entry : FileEntry) (read : Result Row LineReason) (rows : List Row)
    → fold with_row (next_of before entry read).book rows
    ≡ fold with_row before.book (cons_option (result_ok read) rows)
rows-next before entry (Ok row) rows = ap (λ listed. fold with_row listed rows) (grind arith)
rows-next before entry (Err reason) rows = refl

-- the rows behind all entries
pub rows-taken : (entries : List FileEntry) (before after : Listed) → TakeAll before entries after
    → after.book ≡ fold with_row before.book (spelled_rows entries)
rows-taken [] before after takes = ap (λ (listed : Listed). listed.book) takes
rows-taken (entry ∷ entries) before after (next, takes, more) =
    let read = line_reading entry.part entry.text in
    rows-taken entries next after more
    ∙ ap (λ (listed : Listed). fold with_row listed.book (spelled_rows entries)) (takes-is before entry next takes)
    ∙ rows-next before entry read (spelled_rows entries)

-- those of a file
pub rows-listed : (bytes : List ℕ) (listed : Listed) → Lists bytes listed → listed.book ≡ listed_rows (entries_of bytes)
rows-listed bytes listed lists = rows-taken (entries_of bytes) none_listed listed lists.entries
