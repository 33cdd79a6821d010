-- The rows of the dictionary, as they are made.
use Rattle.std.proofs.Common.{◌≡◌, refl, true}
use Rattle.std.specs.List.{list_all}
use Rattle.skk_calls.specs.Rows.{is_row, keys_differ}
use Rattle.load_input.specs.Dictionary.{dictionary_rows, kana, row_of}

-- each is a row
pub all_rows : list_all (λ first. list_all (λ second. is_row (row_of first second)) kana) kana ≡ true
unfolding lib.Utf8.encode
all_rows = refl

-- no key has two of them
pub rows_differ : keys_differ dictionary_rows ≡ true
rows_differ = refl
