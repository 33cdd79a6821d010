use Rattle.std.proofs.Common.{◌≡◌, ◌++◌, ◌-◌}
use Rattle.load_input.specs.Lines.{lines_drawn}
use Rattle.load_input.proofs.lines.draw_lines.Given as goal

-- the lines so far and those that are left are all
abbrev pub invariant-loop : goal.invariant-loop
invariant-loop l =
    l.drawn ++ lines_drawn l.draws.state l.sessions (l.lines - l.counter) ≡ lines_drawn l.seed l.sessions l.lines
