use Rattle.std.proofs.Common.{◌≡◌, ◌++◌, take}
use Rattle.std.specs.List.{filter_map}
use Rattle.dict_expr.specs.Pairs.{lonely, seen}
use Rattle.dict_expr.proofs.books.add_lonely.Given as goal

-- those of the rows so far were added that have no other of their key
abbrev pub invariant-loop-row : goal.invariant-loop-row
invariant-loop-row l = l.rows ≡ l.fn.rows ++ filter_map lonely (seen (take l.row-index l.pairs))
