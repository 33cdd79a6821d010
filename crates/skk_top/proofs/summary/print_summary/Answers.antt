use Rattle.std.proofs.Common.{◌≡◌, ◌∙◌, ◌++◌, ◌*◌, ap, subst, refl, arith, ℕ, List, [], encode_utf8_all}
use Rattle.skk_outside.specs.Moved.{moved_sink}
use Rattle.skk_top.specs.LoadCommand.{summary, summed}
use Rattle.run_endings.specs.Page.{LeavesPrinted}
use Rattle.run_endings.specs.declared.fault.RunFault.TheVariants.{Memory}
use Rattle.run_endings.specs.PageLaws.{Appends-none}
use Rattle.run_endings.specs.PageLaws.{printed-fault}
use Rattle.skk_top.proofs.summary.print_summary.Goals as goal

pub returns-in_err-push_summary : goal.returns-in_err-push_summary
returns-in_err-push_summary g c =
    let text = encode_utf8_all (summed c.args.options.now c.args.tally.now c.args.sessions.now.entries) in
    let out = moved_sink g.O.Outside c.args.out.now c.args.out.now in
    printed-fault text c.from_residual.result Memory out c.from_residual.ensures.1
    ([], (text, refl), Appends-none (g.O.Outside.written c.args.out.now)) tt (omega arith)

pub returns : goal.returns
returns g c =
    let options = c.args.options.now in
    let tally = c.args.tally.now in
    let page : c.push_summary.new.page ≡ summed options tally c.args.sessions.now.entries =
    c.in_ok-push_summary.ensures
    ∙ ap (λ (p : List ℕ). p ++ summary (options.sessions * options.lines) tally.learned tally.restored tally.rows
    c.text_bytes.result) c.new-page.ensures
    ∙ ap (summary (options.sessions * options.lines) tally.learned tally.restored tally.rows) c.text_bytes.ensures in
    subst (λ (text : List ℕ). LeavesPrinted (encode_utf8_all text) c.print_text.result
    (moved_sink g.O.Outside c.args.out.now c.print_text.new.out)) page c.print_text.ensures
