-- The sum and the difference of two dictionaries as lists of rows, and the text of a result.
use Rattle.std.specs.Prelude.{ℕ, Bool, ◌&&◌, not, Option, List, ◌++◌, map, find, nat_lt}
use Rattle.std.specs.List.{filter, filter_map, list_all}
use Rattle.std.specs.Option.{is_some, option_map}
use Rattle.skk_text.specs.Text.{byte_len}
use Rattle.skk_calls.specs.Canonical.{canonical, line_limit}
use Rattle.skk_calls.specs.Dictionary.{line_length}
use Rattle.skk_calls.specs.Orders.{sort_by, row_less}
use Rattle.skk_calls.specs.Rows.{Row, is_word}
use Rattle.skk_calls.specs.States.{row_in}
use Rattle.dict_format.specs.PrintedFiles.{in_printing_order, without_stamp}
use Rattle.dict_expr.specs.Rows.{joined, remaining, says_nothing}

-- rows in the order of their keys
abbrev pub in_order : List Row → List Row
in_order rows = sort_by row_less rows

-- the rows whose keys have none among others
abbrev pub rows_apart : List Row → List Row → List Row
rows_apart rows others = filter (λ row. not (is_some (row_in row.key others))) rows

-- the rows of a sum: those of the first, each with the second's of its key, and behind them the others of the second
abbrev pub sum : List Row → List Row → List Row
sum rows others =
    map (λ row. joined row (row_in row.key others)) (in_order rows)
    ++ map without_stamp (rows_apart (in_order others) rows)

-- the rows of a difference: what is left of those of the first, each without the second's of its key
abbrev pub difference : List Row → List Row → List Row
difference rows others = filter_map (λ row. remaining row (row_in row.key others)) (in_order rows)

-- a row says something that a line can say: a candidate, a block or a hidden word, and its hidden words are words
abbrev pub says_something : Row → Bool
says_something row = not (says_nothing row) && list_all is_word row.hides

-- a row's line is too long
abbrev pub is_too_big : Row → Bool
is_too_big row = nat_lt line_limit (byte_len (canonical row))

-- the first row in printing order whose line is too long
abbrev pub first_too_big : List Row → Option Row
first_too_big rows = find is_too_big (in_printing_order rows)

-- how many bytes the first line of rows has that is too long, as far as a number can tell
abbrev pub too_big_told : List Row → Option ℕ
too_big_told rows = option_map line_length (find is_too_big rows)
