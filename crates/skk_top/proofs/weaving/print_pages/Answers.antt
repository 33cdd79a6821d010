use Rattle.std.proofs.Common.{◌+◌, ◌∙◌, ap, arith, drop, sym, ◌++◌}
use Rattle.script_typing.specs.Pages.{text_of_pages, woven_pages}
use Rattle.run_endings.specs.declared.fault.RunFault.TheVariants.{Memory, Outside}
use Rattle.run_endings.specs.PageLaws.{Printed-more, Printed-prefix, Printed-prefix_of_page, Printed-rest}
use Rattle.run_endings.specs.PageLaws.{Printed-written}
use Rattle.skk_top.proofs.Typed.{page-stopped}
use Rattle.skk_top.proofs.Weaves.{page-next, page-none}
use Rattle.skk_top.proofs.weaving.print_pages.Goals as goal

-- where the next page is wanting all that are there are printed
pub returns-in_default-clause-prints : goal.returns-in_default-clause-prints
returns-in_default-clause-prints g c = record {
  ok = Printed-rest _ _ c.loop-number.page _ _ _
      (page-none c.args.order.now c.loop-number.number-index _ c.loop-number.typed.pages.entries c.loop-number-test.true
      (sym c.in_default.is ∙ c.next_page.ensures.page)) c.loop-number.invariant.printed;
  err = tt;
  stopped = tt;
  counted = c.loop-number.invariant.counted;
}

pub returns-in_err-push_str-clause-prints : goal.returns-in_err-push_str-clause-prints
returns-in_err-push_str-clause-prints g c =
    page-stopped _ _ c.from_residual.result Memory c.from_residual.ensures.1
    (Printed-prefix _ _ c.loop-number.page _ _ c.loop-number.invariant.printed) tt c.loop-number.invariant.counted

pub returns-in_err-print_full-clause-prints : goal.returns-in_err-print_full-clause-prints
returns-in_err-print_full-clause-prints g c =
    let place = c.loop-number.number-index in
    let kept = c.loop-number.invariant in
    let full = c.in_err-print_full.ensures in
    let behind = text_of_pages (woven_pages (drop (place + 1) c.args.order.now) c.next_page.new.self.pages.entries) in
    let left = page-next c.args.order.now place _ c.loop-number.typed.pages.entries c.next_page.new.self.pages.entries
    c.in-Some.line c.loop-number-test.true (sym c.in-Some.is ∙ c.next_page.ensures.page) c.next_page.ensures.rest in
    page-stopped _ _ c.from_residual-in_err-print_full.result Outside c.from_residual-in_err-print_full.ensures.1
    (Printed-prefix_of_page _ _ _ c.push_str.new.self _ _
    (Printed-more _ _ c.loop-number.page c.in-Some.line behind _ c.push_str.new.self
    (c.in_ok-push_str.ensures.ok ∙ ap (λ t. c.loop-number.page ++ t) c.as_str.ensures.characters)
    (Printed-rest _ _ c.loop-number.page _ _ _ left kept.printed)) full.err)
    (omega (arith, kept.counted, full.failed)) (omega (arith, kept.counted, full.counted))

pub loop-number-preserved : goal.loop-number-preserved
loop-number-preserved g c =
    let place = c.loop-number.number-index in
    let kept = c.loop-number.invariant in
    let behind = text_of_pages (woven_pages (drop (place + 1) c.args.order.now) c.next_page.new.self.pages.entries) in
    let left = page-next c.args.order.now place _ c.loop-number.typed.pages.entries c.next_page.new.self.pages.entries
    c.in-Some.line c.loop-number-test.true (sym c.in-Some.is ∙ c.next_page.ensures.page) c.next_page.ensures.rest in
    record {
      printed = Printed-written _ _ _ c.push_str.new.self c.print_full.new.page _ _
          (Printed-more _ _ c.loop-number.page c.in-Some.line behind _ c.push_str.new.self
          (c.in_ok-push_str.ensures.ok ∙ ap (λ t. c.loop-number.page ++ t) c.as_str.ensures.characters)
          (Printed-rest _ _ c.loop-number.page _ _ _ left kept.printed))
          c.in_ok-print_full.ensures.ok;
      counted = omega (arith, kept.counted, c.in_ok-print_full.ensures.counted);
      sessions = c.next_page.ensures.sessions ∙ kept.sessions;
      whole = c.next_page.ensures.whole ∙ kept.whole;
    }
