use Rattle.std.proofs.Common.{◌≡◌, take}
use Rattle.std.specs.List.{filter_map}
use Rattle.dict_expr.specs.Pairs.{remaining_pair, seen}
use Rattle.dict_expr.proofs.books.remaining_rows.Given as goal

-- what is left of the rows so far
abbrev pub invariant-loop-row : goal.invariant-loop-row
invariant-loop-row l = l.rows ≡ filter_map remaining_pair (seen (take l.row-index l.pairs))
