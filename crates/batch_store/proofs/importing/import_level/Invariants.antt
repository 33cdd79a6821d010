use Rattle.std.proofs.Common.{◌≡◌, ◌≤◌, ◌++◌, ◌-◌, Ok, List, length, map, drop}
use Rattle.std.specs.List.{flat_map}
use Rattle.skk_calls.specs.declared.call.Call.{Call}
use Rattle.batch_store.specs.Learnings.{in_groups, learnings_at}
use Rattle.batch_store.specs.Pieces.{CommitsGroups}
use Rattle.batch_store.proofs.importing.import_level.Given as goal

-- the groups of the rows so far were served, and with those of the rows that are left they are the groups of all rows
abbrev pub invariant-loop-place : goal.invariant-loop-place
invariant-loop-place g l = record {
  done : List (List Call);
  served : CommitsGroups g.D.Disk l.fn.batch l.batch done (Ok tt);
  left : done ++ in_groups (learnings_at l.number (map (λ row. row.now) (drop l.place l.rows)) l.rank)
      ≡ in_groups (learnings_at l.number (map (λ row. row.now) l.rows) l.rank);
  stamps : length (flat_map (λ group. group) done) ≤ l.place;
  low : l.place ≤ length l.rows;
}

abbrev pub decreases-loop-place : goal.decreases-loop-place
decreases-loop-place g l = length l.rows - l.place
