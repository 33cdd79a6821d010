use Rattle.std.proofs.Common.{map}
use Rattle.dict_format.specs.Building.{SaysItems}
use Rattle.dict_format.specs.Views.{item_said}
use Rattle.dict_format.proofs.row.parts_of.Given as goal

-- the items so far are said
abbrev pub invariant-loop-item : goal.invariant-loop-item
invariant-loop-item l = SaysItems l.parts (map item_said l.yielded)
