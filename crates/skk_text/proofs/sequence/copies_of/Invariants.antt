use Rattle.std.proofs.Common.{◌≡◌, take}
use Rattle.skk_text.proofs.sequence.copies_of.Given as goal

-- the items so far were copied
abbrev pub invariant-loop-item : goal.invariant-loop-item
invariant-loop-item g l = l.copies ≡ take l.item-index l.items
