-- What the rows of a system file keep.
use Rattle.std.specs.Prelude.{Bool, ◌&&◌, List}
use Rattle.std.specs.List.{list_all}
use Rattle.skk_calls.specs.Rows.{Row, is_row, keys_differ}

-- a file's rows: each is a row, and no key has two of them
abbrev pub is_file : List Row → Bool
is_file rows = list_all is_row rows && keys_differ rows
