use Rattle.std.proofs.Common.{◌≡◌, ◌++◌}
use Rattle.learned_store.specs.Gathering.{placed_entries}
use Rattle.learned_store.proofs.gathered.placed_rows.Given as goal

-- the rows so far are placed, and the others are left
abbrev pub invariant-loop-place : goal.invariant-loop-place
invariant-loop-place l = placed_entries l.placed.items ++ l.place-iterator ≡ l.fn.rows.entries
