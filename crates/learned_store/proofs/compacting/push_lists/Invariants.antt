use Rattle.std.proofs.Common.{◌≡◌, ◌++◌, take}
use Rattle.std.specs.List.{flat_map}
use Rattle.learned_store.specs.Compacting.{list_record}
use Rattle.learned_store.proofs.compacting.push_lists.Given as goal

-- the records of the lists so far were added
abbrev pub invariant-loop-list : goal.invariant-loop-list
invariant-loop-list l = l.records.items ≡ l.fn.records.items ++ flat_map list_record (take l.list-index l.lists)
