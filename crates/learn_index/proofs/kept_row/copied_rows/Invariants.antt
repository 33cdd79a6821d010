use Rattle.std.proofs.Common.{◌≡◌, take}
use Rattle.learn_index.proofs.kept_row.copied_rows.Given as goal

-- the rows so far are copied
abbrev pub invariant-loop-kept : goal.invariant-loop-kept
invariant-loop-kept l = l.copies ≡ take l.kept-index l.rows
