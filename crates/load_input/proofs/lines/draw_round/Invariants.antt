use Rattle.std.proofs.Common.{◌≡◌, ◌++◌, ◌+◌, ◌-◌}
use Rattle.load_input.specs.Lines.{behind_round, round}
use Rattle.load_input.proofs.lines.draw_round.Given as goal

-- the lines so far and those that are left are all
abbrev pub invariant-loop-before : goal.invariant-loop-before
invariant-loop-before l = record {
  lines : l.lines ++ round l.draws.state (l.before + 1) (l.sessions - l.before)
      ≡ l.fn.lines ++ round l.fn.draws.state 1 l.sessions;
  state : behind_round l.draws.state (l.sessions - l.before) ≡ behind_round l.fn.draws.state l.sessions;
}
