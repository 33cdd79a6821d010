use Rattle.std.proofs.Common.{◌≤◌, drop}
use Rattle.skk_top.specs.CheckedFiles.{bad_lines}
use Rattle.run_endings.specs.Page.{Printed}
use Rattle.skk_top.proofs.checking.print_bad_lines.Given as goal

-- what was written, the page, and the bad lines left are all bad lines
abbrev pub invariant-loop-line : goal.invariant-loop-line
invariant-loop-line g l = record {
  printed : Printed (g.O.Outside.written l.fn.out) (g.O.Outside.written l.out) l.page
      (bad_lines (drop l.line-index l.bad)) (bad_lines l.bad);
  counted : g.O.Outside.faults l.fn.out ≤ g.O.Outside.faults l.out;
}
