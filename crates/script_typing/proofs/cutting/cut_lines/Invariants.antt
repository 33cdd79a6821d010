use Rattle.std.proofs.Common.{◌≡◌, ◌++◌}
use Rattle.script_typing.specs.MapLaws.{AreBelow}
use Rattle.script_typing.specs.Woven.{tasks_of, numbers_printed}
use Rattle.script_typing.proofs.cutting.cut_lines.Given as goal

-- the lines that were gone over are cut, and the numbers of sessions are bytes
abbrev pub invariant-loop-line : goal.invariant-loop-line
invariant-loop-line l =
    (l.tasks.entries ≡ tasks_of l.yielded) × (l.order.items ≡ numbers_printed l.yielded)
    × (l.yielded ++ l.line-iterator.rest.items ≡ l.fn.lines.items) × AreBelow 256 l.tasks.entries
