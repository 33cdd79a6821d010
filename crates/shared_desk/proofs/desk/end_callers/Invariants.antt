use Rattle.std.proofs.Common.{◌≡◌, ◌++◌, All}
use Rattle.shared_desk.specs.Told.{Stood}
use Rattle.shared_desk.proofs.desk.end_callers.Given as goal

-- the slips that were gone over stand in the history
abbrev pub invariant-loop-slip : goal.invariant-loop-slip
invariant-loop-slip g l =
    (l.pen.table ≡ g.N.DeskName.table) × (l.pen.seen ≡ l.fn.pen.seen) × (l.pen.roll ≡ l.fn.pen.roll)
    × All (Stood l.fn.pen.seen) l.yielded × (l.yielded ++ l.slip-iterator.rest.items ≡ l.fn.slips)
