-- The rows of a dictionary by the ranks that their candidates have.
use Rattle.std.specs.Prelude.{ℕ, zero, suc, Bool, nat_lt, List, [], ◌∷◌, ◌++◌, length}
use Rattle.std.specs.List.{filter}
use Rattle.skk_calls.specs.Rows.{Row}

-- a row has a candidate of this rank, counted from 0
abbrev pub has_rank : ℕ → Row → Bool
has_rank rank row = nat_lt rank (length row.cands)

-- for each rank below one, the least first: the rows that have a candidate of it, in order
abbrev pub levels_below : List Row → ℕ → List (List Row)
levels_below rows zero = []
levels_below rows (suc rank) = levels_below rows rank ++ filter (has_rank rank) rows ∷ []
