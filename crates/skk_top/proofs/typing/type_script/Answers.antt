use Rattle.std.proofs.Common.{◌++◌, [], Err, Ok}
use Rattle.skk_outside.specs.Moved.{moved_sink}
use Rattle.skk_calls.specs.RunLaws.{runs-begun}
use Rattle.script_typing.specs.LineLaws.{runs-lost, runs-put}
use Rattle.script_typing.specs.Typed.{closing_lines}
use Rattle.skk_top.proofs.Typed.{page-lost, page-then, page-unwritten, page-written, typed-closed, typed-start}
use Rattle.skk_top.proofs.typing.type_script.Goals as goal

pub returns-in_err-type_lines : goal.returns-in_err-type_lines
returns-in_err-type_lines g c =
    let fault = c.in_err-type_lines.field-0.0 in
    let out = moved_sink g.O.Outside c.args.out.now c.type_lines.new.out in
    runs-lost _ c.from_residual.result _ c.from_residual.ensures.1
    (runs-put (λ text prints. page-lost text c.type_lines.new.progress.page c.from_residual.result fault out
    c.from_residual.ensures.1 prints)
    (typed-start c.args.rules.now c.args.lines.now (Err fault) c.type_lines.new.progress.sessions.entries
    c.type_lines.new.progress.page out c.new.ensures.empty c.new-2.ensures c.in_err-type_lines.ensures))

pub returns-in_err-close_sessions : goal.returns-in_err-close_sessions
returns-in_err-close_sessions g c =
    let fault = c.in_err-close_sessions.field-0.0 in
    let ended = c.from_residual-in_err-close_sessions.result in
    let sessions = c.type_lines.new.progress.sessions.entries in
    let page = c.type_lines.new.progress.page in
    runs-lost _ ended _ c.from_residual-in_err-close_sessions.ensures.1
    (runs-begun (typed-closed c.args.rules.now sessions
    (λ one prints. page-lost (one ++ closing_lines sessions) c.close_sessions.new.page ended fault
    (moved_sink g.O.Outside c.args.out.now c.close_sessions.new.out)
    c.from_residual-in_err-close_sessions.ensures.1
    (page-then [] one (closing_lines sessions) page c.close_sessions.new.page (Err fault) prints
    c.in_err-close_sessions.ensures))
    (typed-start c.args.rules.now c.args.lines.now (Ok tt) sessions page
    (moved_sink g.O.Outside c.args.out.now c.type_lines.new.out)
    c.new.ensures.empty c.new-2.ensures c.in_ok-type_lines.ensures)))

pub returns-in_err-print_through : goal.returns-in_err-print_through
returns-in_err-print_through g c =
    let ended = c.from_residual-in_err-print_through.result in
    let sessions = c.type_lines.new.progress.sessions.entries in
    let page = c.type_lines.new.progress.page in
    runs-lost _ ended _ c.from_residual-in_err-print_through.ensures.1
    (runs-begun (typed-closed c.args.rules.now sessions
    (λ one prints. page-unwritten (one ++ closing_lines sessions) c.close_sessions.new.page ended _
    c.from_residual-in_err-print_through.ensures.1
    (page-then [] one (closing_lines sessions) page c.close_sessions.new.page (Ok tt) prints
    c.in_ok-close_sessions.ensures) c.in_err-print_through.ensures)
    (typed-start c.args.rules.now c.args.lines.now (Ok tt) sessions page
    (moved_sink g.O.Outside c.args.out.now c.type_lines.new.out)
    c.new.ensures.empty c.new-2.ensures c.in_ok-type_lines.ensures)))

pub returns : goal.returns
returns g c =
    let sessions = c.type_lines.new.progress.sessions.entries in
    let page = c.type_lines.new.progress.page in
    typed-closed c.args.rules.now sessions
    (λ one prints. page-written (one ++ closing_lines sessions) c.close_sessions.new.page
    (page-then [] one (closing_lines sessions) page c.close_sessions.new.page (Ok tt) prints
    c.in_ok-close_sessions.ensures) c.in_ok-print_through.ensures)
    (typed-start c.args.rules.now c.args.lines.now (Ok tt) sessions page
    (moved_sink g.O.Outside c.args.out.now c.type_lines.new.out)
    c.new.ensures.empty c.new-2.ensures c.in_ok-type_lines.ensures)
