-- A walk along rows in the order of their keys.
use Rattle.std.specs.Prelude.{if◌then◌else◌, Option, None, Some, List, [], ◌∷◌}
use Rattle.skk_calls.specs.Orders.{key_less}
use Rattle.skk_calls.specs.Rows.{Row, RowKey, same_key}

-- the rows from the first on whose key is not less
abbrev pub rows_from : RowKey → List Row → List Row
rows_from key [] = []
rows_from key (row ∷ rows) = if key_less row.key key then rows_from key rows else row ∷ rows

-- the first row where it has this key
abbrev pub first_of : RowKey → List Row → Option Row
first_of key [] = None
first_of key (row ∷ rows) = if same_key row.key key then Some row else None
