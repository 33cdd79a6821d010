use Rattle.std.proofs.Common.{◌≡◌, ◌++◌, map, take}
use Rattle.dict_expr.specs.Pairs.{joined_pair, seen}
use Rattle.dict_expr.proofs.books.add_joined.Given as goal

-- the rows so far were added, each with the other of its key
abbrev pub invariant-loop-row : goal.invariant-loop-row
invariant-loop-row l = l.rows ≡ l.fn.rows ++ map joined_pair (seen (take l.row-index l.pairs))
