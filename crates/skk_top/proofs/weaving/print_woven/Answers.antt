use Rattle.std.proofs.Common.{◌≡◌, ◌∙◌, ◌++◌, Err, Ok, [], refl, sym, true, encode_utf8_all}
use Rattle.skk_outside.specs.Moved.{moved_sink}
use Rattle.script_typing.specs.Pages.{text_of_pages, woven_pages}
use Rattle.script_typing.specs.Typed.{closing_lines}
use Rattle.run_endings.specs.declared.fault.RunFault.TheVariants.{Memory}
use Rattle.run_endings.specs.PageLaws.{AppendsPrefix-whole, printed-fault}
use Rattle.skk_top.proofs.Typed.{page-lost, page-then, page-unwritten, page-written}
use Rattle.skk_top.proofs.Weaves.{pages-closed, pages-lost}
use Rattle.skk_top.proofs.weaving.print_woven.Goals as goal

pub returns-in_err-print_pages : goal.returns-in_err-print_pages
returns-in_err-print_pages g c =
    pages-lost c.args.order.now c.args.typed c.from_residual.result _ c.from_residual.ensures.1
    (page-lost _ c.print_pages.new.page c.from_residual.result _
    (moved_sink g.O.Outside c.args.out.now c.print_pages.new.out) c.from_residual.ensures.1
    c.in_err-print_pages.ensures.prints)

-- where not all is whole the pages are written
pub returns-in_err-print : goal.returns-in_err-print
returns-in_err-print g c =
    pages-lost c.args.order.now c.args.typed c.from_residual-in_err-print.result _
    c.from_residual-in_err-print.ensures.1
    (page-unwritten _ c.print_pages.new.page c.from_residual-in_err-print.result _
    c.from_residual-in_err-print.ensures.1 c.in_ok-print_pages.ensures.prints c.in_err-print.ensures)

pub returns-then-not-typed : goal.returns-then-not-typed
returns-then-not-typed g c =
    let out = moved_sink g.O.Outside c.args.out.now c.print.new.out in
    let pages = text_of_pages (woven_pages c.args.order.now c.args.typed.pages.entries) in
    let written = page-written pages c.print_pages.new.page c.in_ok-print_pages.ensures.prints
    c.in_ok-print.ensures in
    pages-lost c.args.order.now c.args.typed (Err Memory) (λ fault. fault ≡ Memory) refl
    (printed-fault (encode_utf8_all pages) (Err Memory) Memory out refl
    (AppendsPrefix-whole out.written out.written' (encode_utf8_all pages) written.whole) tt written.counted)

-- where all is, the closing lines come behind them
pub returns-in_err-close_sessions : goal.returns-in_err-close_sessions
returns-in_err-close_sessions g c =
    let all : c.args.typed.whole ≡ true = sym c.in_ok-print_pages.ensures.whole ∙ c.if-not-typed.false in
    let pages = text_of_pages (woven_pages c.args.order.now c.args.typed.pages.entries) in
    let closing = closing_lines c.args.typed.sessions.entries in
    let ended = c.from_residual-in_err-close_sessions.result in
    let fault = c.in_err-close_sessions.field-0.0 in
    let out = moved_sink g.O.Outside c.args.out.now c.close_sessions.new.out in
    pages-closed c.args.order.now c.args.typed ended out all
    (page-lost (pages ++ closing) c.close_sessions.new.page ended fault out
    c.from_residual-in_err-close_sessions.ensures.1
    (page-then [] pages closing c.print_pages.new.page c.close_sessions.new.page (Err fault)
    c.in_ok-print_pages.ensures.prints
    (rw c.in_ok-print_pages.ensures.sessions at c.in_err-close_sessions.ensures)))

pub returns-in_err-print_through : goal.returns-in_err-print_through
returns-in_err-print_through g c =
    let all : c.args.typed.whole ≡ true = sym c.in_ok-print_pages.ensures.whole ∙ c.if-not-typed.false in
    let pages = text_of_pages (woven_pages c.args.order.now c.args.typed.pages.entries) in
    let closing = closing_lines c.args.typed.sessions.entries in
    let ended = c.from_residual-in_err-print_through.result in
    pages-closed c.args.order.now c.args.typed ended
    (moved_sink g.O.Outside c.args.out.now c.print_through.new.out) all
    (page-unwritten (pages ++ closing) c.close_sessions.new.page ended _
    c.from_residual-in_err-print_through.ensures.1
    (page-then [] pages closing c.print_pages.new.page c.close_sessions.new.page (Ok tt)
    c.in_ok-print_pages.ensures.prints (rw c.in_ok-print_pages.ensures.sessions at c.in_ok-close_sessions.ensures))
    c.in_err-print_through.ensures)

pub returns : goal.returns
returns g c =
    let all : c.args.typed.whole ≡ true = sym c.in_ok-print_pages.ensures.whole ∙ c.if-not-typed.false in
    let pages = text_of_pages (woven_pages c.args.order.now c.args.typed.pages.entries) in
    let closing = closing_lines c.args.typed.sessions.entries in
    pages-closed c.args.order.now c.args.typed (Ok tt)
    (moved_sink g.O.Outside c.args.out.now c.print_through.new.out) all
    (page-written (pages ++ closing) c.close_sessions.new.page
    (page-then [] pages closing c.print_pages.new.page c.close_sessions.new.page (Ok tt)
    c.in_ok-print_pages.ensures.prints (rw c.in_ok-print_pages.ensures.sessions at c.in_ok-close_sessions.ensures))
    c.in_ok-print_through.ensures)
