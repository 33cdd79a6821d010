use Rattle.std.proofs.Common.{◌≡◌, ◌+◌, ◌≤◌, ◌++◌, Ok, List, length, map}
use Rattle.std.specs.List.{flat_map}
use Rattle.skk_calls.specs.declared.call.Call.{Call}
use Rattle.dict_format.specs.PrintedFiles.{in_printing_order}
use Rattle.batch_store.specs.Learnings.{groups_below, import_calls, import_groups, learnings_below}
use Rattle.batch_store.specs.Levels.{levels_below}
use Rattle.batch_store.specs.Pieces.{CommitsGroups}
use Rattle.batch_store.proofs.importing.import.Given as goal

-- the groups of the ranks so far were served, and with those of the levels that are left they are the groups of all
abbrev pub invariant-loop-level : goal.invariant-loop-level
invariant-loop-level g l = record {
  done : List (List Call);
  served : CommitsGroups g.D.Disk l.fn.batch l.batch done (Ok tt);
  levels : map (λ level. map (λ row. row.now) level.items) l.levels.items
      ≡ levels_below (in_printing_order l.book) (length l.levels.items);
  left : done ++ groups_below l.number (in_printing_order l.book) (length l.levels.items)
      ≡ import_groups l.number l.book;
  stamps : length (flat_map (λ group. group) done)
      + length (learnings_below l.number (in_printing_order l.book) (length l.levels.items))
      ≤ length (import_calls l.number l.book);
}

abbrev pub decreases-loop-level : goal.decreases-loop-level
decreases-loop-level g l = length l.levels.items
