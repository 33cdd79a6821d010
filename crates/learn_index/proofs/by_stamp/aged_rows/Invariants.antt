use Rattle.std.proofs.Common.{◌≡◌, take}
use Rattle.learn_index.proofs.by_stamp.aged_rows.Given as goal

-- the rows so far are shared
abbrev pub invariant-loop-kept : goal.invariant-loop-kept
invariant-loop-kept l = l.aged.items ≡ take l.kept-index l.rows
