use Rattle.std.proofs.Common.{◌≡◌, ◌-◌, ◌∙◌, ◌++◌, ap, arith, List}
use Rattle.key_scripts.specs.declared.line.Line.{Line}
use Rattle.load_input.specs.Lines.{lines_drawn}
use Rattle.load_input.proofs.Rounds.{turn-end, turn-on}
use Rattle.load_input.proofs.lines.draw_lines.Goals as goal

pub loop-init : goal.loop-init
loop-init c =
    let all : c.args.lines - 0 ≡ c.args.lines = omega arith in
    ap (λ (ls : List Line). ls ++ lines_drawn c.args.seed c.args.sessions (c.args.lines - 0)) c.new-drawn.ensures
    ∙ ap (lines_drawn c.args.seed c.args.sessions) all

pub loop-preserved : goal.loop-preserved
loop-preserved c =
    turn-on c.loop.drawn c.draw_round.new.lines _ c.loop.draws.state c.draw_round.new.draws.state c.args.sessions
    c.loop.counter c.args.lines (omega arith) c.in_ok-draw_round.ensures.lines c.in_ok-draw_round.ensures.state
    c.loop.invariant

pub returns : goal.returns
returns c =
    turn-end c.loop.drawn _ c.loop.draws.state c.args.sessions c.loop.counter c.args.lines (omega arith)
    c.loop.invariant
