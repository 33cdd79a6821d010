use Rattle.std.proofs.Common.{◌++◌, arith, refl}
use Rattle.skk_calls.specs.RunLaws.{runs-nothing}
use Rattle.script_typing.specs.LineLaws.{played-first, puts-nothing, runs-line, runs-lost, runs-over}
use Rattle.script_typing.specs.Playing.{playing}
use Rattle.script_typing.proofs.playing.play_lines.Goals as goal

pub loop-line-init : goal.loop-line-init
loop-line-init g c =
    runs-nothing (λ behind. playing c.args.rules.now c.args.sessions.now.entries (c.args.lines.now ++ behind)) refl refl

pub returns-in_err-play_line : goal.returns-in_err-play_line
returns-in_err-play_line g c =
    runs-lost _ c.from_residual.result _ c.from_residual.ensures.1
    (runs-line (playing c.args.rules.now c.loop-line.sessions.entries) c.args.lines.now c.loop-line.line-index
    c.line-item.result c.loop-line-test.true c.line-item.is puts-nothing c.loop-line.invariant
    (played-first c.args.rules.now c.line-item.result _ c.in_err-play_line.ensures))

pub loop-line-preserved : goal.loop-line-preserved
loop-line-preserved g c =
    runs-line (playing c.args.rules.now c.loop-line.sessions.entries) c.args.lines.now c.loop-line.line-index
    c.line-item.result c.loop-line-test.true c.line-item.is puts-nothing c.loop-line.invariant
    (played-first c.args.rules.now c.line-item.result _ c.in_ok-play_line.ensures)

pub returns : goal.returns
returns g c =
    runs-over (playing c.args.rules.now c.loop-line.sessions.entries) c.args.lines.now c.loop-line.line-index
    (omega (arith, c.loop-line-test.false)) c.loop-line.invariant
