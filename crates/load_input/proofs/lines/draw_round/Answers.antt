use Rattle.std.proofs.Common.{◌≡◌, ◌+◌, ◌-◌, ◌∙◌, ◌++◌, ap, arith, List}
use Rattle.key_scripts.specs.declared.line.Line.{Line}
use Rattle.load_input.specs.Lines.{behind_round, round}
use Rattle.load_input.proofs.Rounds.{round-end, round-on, state-end, state-on}
use Rattle.load_input.proofs.lines.draw_round.Goals as goal

pub loop-before-init : goal.loop-before-init
loop-before-init c =
    let state = c.args.draws.now.state in
    let all : c.args.sessions - 0 ≡ c.args.sessions = omega arith in
    record {
      lines = ap (λ n. c.args.lines.now ++ round state 1 n) all;
      state = ap (behind_round state) all;
    }

pub loop-before-preserved : goal.loop-before-preserved
loop-before-preserved c =
    let kept = c.loop-before.invariant in
    let line = c.in_ok-line.ensures in
    record {
      lines = ap (λ (ls : List Line). ls ++ round c.draw_line.new.draws.state (c.loop-before.before + 1 + 1)
          (c.args.sessions - (c.loop-before.before + 1))) c.in_ok-push.ensures.ok
          ∙ round-on c.loop-before.lines _ c.in_ok-line.line c.loop-before.draws.state c.draw_line.new.draws.state
          c.loop-before.before c.args.sessions (omega arith) line.line line.state kept.lines;
      state = state-on c.loop-before.draws.state c.draw_line.new.draws.state c.loop-before.before c.args.sessions _
          (omega arith) line.state kept.state;
    }

pub returns-clause-lines : goal.returns-clause-lines
returns-clause-lines c =
    round-end c.loop-before.lines _ c.loop-before.draws.state (c.loop-before.before + 1) c.loop-before.before
    c.args.sessions (omega arith) c.loop-before.invariant.lines

pub returns-clause-state : goal.returns-clause-state
returns-clause-state c =
    state-end c.loop-before.draws.state c.loop-before.before c.args.sessions _ (omega arith)
    c.loop-before.invariant.state
