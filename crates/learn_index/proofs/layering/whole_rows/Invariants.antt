use Rattle.std.proofs.Common.{◌≡◌}
use Rattle.learn_index.proofs.layering.whole_rows.Given as goal

-- the rows so far are those that were found
abbrev pub invariant-loop-row : goal.invariant-loop-row
invariant-loop-row l = l.rows ≡ l.yielded
