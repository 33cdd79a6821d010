-- What holds of the rows that entries list: of each key the first that is spelled.
use Rattle.std.proofs.Common.{◌≡◌, ◌∙◌, ℕ, true, false, not, Some, List, [], ◌∷◌, ◌++◌, arith, refl}
use Rattle.std.specs.List.{fold, list_all}
use Rattle.std.specs.Option.{is_some, option_or}
use Rattle.std.proofs.lemmas.List.Folds.{find-append, list_all-append}
use Rattle.skk_calls.specs.declared.part.Part.{Part}
use Rattle.skk_calls.specs.KeyLaws.{same_key_equal}
use Rattle.skk_calls.specs.Rows.{Row, RowKey, is_row, keys_differ, same_key}
use Rattle.skk_calls.specs.States.{row_in}
use Rattle.dict_format.specs.EntryRows.{listed_rows, row_of_line, spelled_rows, with_row}
use Rattle.dict_format.specs.FileLines.{FileEntry, has_key}

-- rows whose keys differ still do with one more, whose key none of them has
pub keys-with : (rows : List Row) (row : Row) → keys_differ rows ≡ true → has_key rows row.key ≡ false
    → keys_differ (rows ++ row ∷ []) ≡ true
keys-with [] row differ new = refl
keys-with (other ∷ rows) row differ new =
    let joined = list_all-append (λ (one : Row). not (same_key other.key one.key)) rows (row ∷ []) in
    grind (arith, joined, keys-with rows row)

-- a key that rows have has a row of them
has-row : (rows : List Row) (key : RowKey) → has_key rows key ≡ is_some (row_in key rows)
has-row [] key = refl
has-row (row ∷ rows) key = grind (arith, has-row rows key)

-- Rows one by one

-- behind one more a key has the row that it had, or else that one
row-with : (key : RowKey) (rows : List Row) (row : Row)
    → row_in key (with_row rows row) ≡ option_or (row_in key rows) (row_in key (row ∷ []))
row-with key rows row =
    let same = same_key_equal row.key key in
    grind (arith, same, has-row rows key, find-append (λ other. same_key other.key key) rows (row ∷ []))

-- and behind more the first of them
rows-with : (key : RowKey) (rows more : List Row)
    → row_in key (fold with_row rows more) ≡ option_or (row_in key rows) (row_in key more)
rows-with key rows [] = grind arith
rows-with key rows (row ∷ more) = rows-with key (with_row rows row) more ∙ grind (arith, row-with key rows row)

keys-added : (rows more : List Row) → keys_differ rows ≡ true → keys_differ (fold with_row rows more) ≡ true
keys-added rows [] differ = differ
keys-added rows (row ∷ more) differ = keys-added (with_row rows row) more (grind (arith, keys-with rows row))

rows-added : (rows more : List Row) → list_all is_row rows ≡ true → list_all is_row more ≡ true
    → list_all is_row (fold with_row rows more) ≡ true
rows-added rows [] all valid = all
rows-added rows (row ∷ more) all valid =
    rows-added (with_row rows row) more (grind (arith, list_all-append is_row rows (row ∷ []))) (grind arith)

-- Listed rows

-- a key has the first row that is spelled
pub row-listed : (key : RowKey) (entries : List FileEntry)
    → row_in key (listed_rows entries) ≡ row_in key (spelled_rows entries)
row-listed key entries = rows-with key [] (spelled_rows entries)

-- no key has two
pub listed-keys : (entries : List FileEntry) → keys_differ (listed_rows entries) ≡ true
listed-keys entries = keys-added [] (spelled_rows entries) refl

-- each is a row where those that lines spell are
module _
    (valid : (part : Part) (line : List ℕ) (row : Row) → row_of_line part line ≡ Some row → is_row row ≡ true) where
  spelled-rows : (entries : List FileEntry) → list_all is_row (spelled_rows entries) ≡ true
  spelled-rows [] = refl
  spelled-rows (entry ∷ entries) = grind (arith, valid entry.part entry.text, spelled-rows entries)

  pub listed-rows : (entries : List FileEntry) → list_all is_row (listed_rows entries) ≡ true
  listed-rows entries = rows-added [] (spelled_rows entries) refl (spelled-rows entries)
