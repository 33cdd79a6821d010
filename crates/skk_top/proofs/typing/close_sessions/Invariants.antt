use Rattle.std.proofs.Common.{◌≤◌, ◌++◌}
use Rattle.run_endings.specs.Page.{Printed}
use Rattle.script_typing.specs.Typed.{closing_lines}
use Rattle.skk_top.proofs.typing.close_sessions.Given as goal

-- what was written, the page, and the closing lines left are the page at the start and all closing lines
abbrev pub invariant-loop-number : goal.invariant-loop-number
invariant-loop-number g l = record {
  printed : Printed (g.O.Outside.written l.fn.out) (g.O.Outside.written l.out) l.page (closing_lines l.number-iterator)
      (l.fn.page ++ closing_lines l.sessions.entries);
  counted : g.O.Outside.faults l.fn.out ≤ g.O.Outside.faults l.out;
}
