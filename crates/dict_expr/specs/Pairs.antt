-- Rows, each with the row of its key elsewhere, where there is one.
use Rattle.std.specs.Prelude.{Bool, true, Option, None, Some, List, map}
use Rattle.std.specs.Option.{option_copied}
use denote.Ref.{Bor}
use Rattle.skk_calls.specs.Rows.{Row, same_part}
use Rattle.skk_calls.specs.States.{row_in}
use Rattle.dict_format.specs.PrintedFiles.{without_stamp}
use Rattle.dict_expr.specs.Rows.{joined, remaining}

-- a row with the other of its key
abbrev pub paired : List Row → Row → Row × Option Row
paired others row = (row, row_in row.key others)

-- the rows of pairs that stand elsewhere
abbrev pub seen : List (Bor Row × Option (Bor Row)) → List (Row × Option Row)
seen pairs = map (λ pair. (pair.0.now, option_copied pair.1)) pairs

-- a row and the other of its key are of one part
abbrev pub are_of_one_part : Row × Option Row → Bool
are_of_one_part (row, None) = true
are_of_one_part (row, Some other) = same_part other.key.part row.key.part

-- a row with the other of its key
abbrev pub joined_pair : Row × Option Row → Row
joined_pair pair = joined pair.0 pair.1

-- what is left of a row without the other of its key
abbrev pub remaining_pair : Row × Option Row → Option Row
remaining_pair pair = remaining pair.0 pair.1

-- a row without another of its key, with stamp 0
abbrev pub lonely : Row × Option Row → Option Row
lonely (row, None) = Some (without_stamp row)
lonely (row, Some other) = None
