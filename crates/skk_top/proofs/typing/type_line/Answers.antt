use Rattle.std.proofs.Common.{◌∙◌, ◌++◌, ap, subst, sym, encode_utf8_all}
use Rattle.skk_outside.specs.Written.{AppendsPrefix}
use Rattle.skk_calls.specs.RunLaws.{runs-begun}
use Rattle.run_endings.specs.declared.fault.RunFault.TheVariants.{Outside}
use Rattle.script_typing.specs.LineLaws.{runs-lost, runs-put, typed-begun, typed-first}
use Rattle.skk_top.proofs.Typed.{line-pushed, page-full, page-kept, page-stopped}
use Rattle.skk_top.proofs.typing.type_line.Goals as goal

pub returns-in_err-play_line : goal.returns-in_err-play_line
returns-in_err-play_line g c =
    let page = c.args.progress.now.page in
    runs-lost _ c.from_residual.result _ c.from_residual.ensures.1
    (runs-put (λ text begun. page-kept (page ++ text) _ c.from_residual.result c.from_residual.ensures.1)
    (typed-begun c.args.rules.now c.args.line.now _ c.in_err-play_line.ensures))

pub returns-in_err-push_printed : goal.returns-in_err-push_printed
returns-in_err-push_printed g c =
    let page = c.args.progress.now.page in
    runs-lost _ c.from_residual-in_err-push_printed.result _ c.from_residual-in_err-push_printed.ensures.1
    (runs-put (λ text begun. page-kept (page ++ text) _ c.from_residual-in_err-push_printed.result
    c.from_residual-in_err-push_printed.ensures.1)
    (typed-begun c.args.rules.now c.args.line.now _ c.in_ok-play_line.ensures))

pub returns-in_err-print_full : goal.returns-in_err-print_full
returns-in_err-print_full g c =
    let page = c.args.progress.now.page in
    let plays = c.in_ok-play_line.ensures in
    let full = c.in_err-print_full.ensures in
    let pushed = line-pushed c.args.line.now c.args.progress.now.sessions.entries c.play_line.new.sessions.entries
    plays.session page c.push_printed.new.page plays.put c.in_ok-push_printed.ensures in
    runs-lost _ c.from_residual-in_err-print_full.result _ c.from_residual-in_err-print_full.ensures.1
    (runs-put (λ text is. page-stopped (page ++ text) _ c.from_residual-in_err-print_full.result Outside
    c.from_residual-in_err-print_full.ensures.1
    (subst (λ t. AppendsPrefix (g.O.Outside.written c.args.out.now) (g.O.Outside.written c.print_full.new.out)
    (encode_utf8_all t)) (pushed ∙ ap (λ t. page ++ t) (sym is)) full.err)
    full.failed full.counted)
    (runs-begun (typed-first c.args.rules.now c.args.line.now plays)))

pub returns : goal.returns
returns g c =
    let page = c.args.progress.now.page in
    let plays = c.in_ok-play_line.ensures in
    let full = c.in_ok-print_full.ensures in
    let pushed = line-pushed c.args.line.now c.args.progress.now.sessions.entries c.play_line.new.sessions.entries
    plays.session page c.push_printed.new.page plays.put c.in_ok-push_printed.ensures in
    runs-put (λ text is. page-full (page ++ text) c.push_printed.new.page c.print_full.new.page
    (pushed ∙ ap (λ t. page ++ t) (sym is)) full.ok full.counted)
    (typed-first c.args.rules.now c.args.line.now plays)
