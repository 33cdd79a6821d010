use Rattle.std.proofs.Common.{◌++◌, Err, Ok, arith, refl}
use Rattle.skk_calls.specs.RunLaws.{runs-nothing}
use Rattle.script_typing.specs.LineLaws.{runs-line, runs-lost, runs-over}
use Rattle.script_typing.specs.Typed.{typing}
use Rattle.skk_top.proofs.Typed.{page-handed, page-start, page-then}
use Rattle.skk_top.proofs.typing.type_lines.Goals as goal

pub loop-line-init : goal.loop-line-init
loop-line-init g c =
    runs-nothing (λ behind. typing c.args.rules.now c.args.progress.now.sessions.entries (c.args.lines.now ++ behind))
    refl (page-start c.args.progress.now.page)

pub returns-in_err-type_line : goal.returns-in_err-type_line
returns-in_err-type_line g c =
    let fault = c.in_err-type_line.field-0.0 in
    let page = c.args.progress.now.page in
    runs-lost _ c.from_residual.result _ c.from_residual.ensures.1
    (runs-line (typing c.args.rules.now c.loop-line.progress.sessions.entries) c.args.lines.now c.loop-line.line-index
    c.line-item.result c.loop-line-test.true c.line-item.is
    (λ one two first then. page-handed (page ++ (one ++ two)) c.type_line.new.progress.page _ c.from_residual.result
    fault c.from_residual.ensures.1
    (page-then page one two c.loop-line.progress.page c.type_line.new.progress.page (Err fault) first then))
    c.loop-line.invariant c.in_err-type_line.ensures)

pub loop-line-preserved : goal.loop-line-preserved
loop-line-preserved g c =
    runs-line (typing c.args.rules.now c.loop-line.progress.sessions.entries) c.args.lines.now c.loop-line.line-index
    c.line-item.result c.loop-line-test.true c.line-item.is
    (λ one two. page-then c.args.progress.now.page one two c.loop-line.progress.page c.type_line.new.progress.page
    (Ok tt))
    c.loop-line.invariant c.in_ok-type_line.ensures

pub returns : goal.returns
returns g c =
    runs-over (typing c.args.rules.now c.loop-line.progress.sessions.entries) c.args.lines.now c.loop-line.line-index
    (omega (arith, c.loop-line-test.false)) c.loop-line.invariant
