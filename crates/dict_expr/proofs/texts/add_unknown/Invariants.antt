use Rattle.std.proofs.Common.{◌≡◌, ◌++◌, take}
use Rattle.dict_expr.specs.Rows.{texts_without}
use Rattle.dict_expr.proofs.texts.add_unknown.Given as goal

-- the texts so far were added, but for those that are known
abbrev pub invariant-loop-text : goal.invariant-loop-text
invariant-loop-text l = l.copies ≡ l.fn.copies ++ texts_without (take l.text-index l.texts) l.known
