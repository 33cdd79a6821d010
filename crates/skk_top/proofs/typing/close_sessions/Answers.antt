use Rattle.std.proofs.Common.{◌++◌, ap, arith}
use Rattle.std.specs.Map.Iter.{deref_pair}
use Rattle.std.proofs.lemmas.Map.Iter.{rest_more}
use Rattle.script_typing.specs.Printing.{closing_line}
use Rattle.script_typing.specs.Typed.{closing_lines}
use Rattle.run_endings.specs.declared.fault.RunFault.TheVariants.{Memory, Outside}
use Rattle.run_endings.specs.PageLaws.{Printed-prefix, Printed-prefix_of_page, Printed-more, Printed-rest}
use Rattle.run_endings.specs.PageLaws.{Printed-written}
use Rattle.skk_top.proofs.Typed.{page-stopped}
use Rattle.skk_top.proofs.typing.close_sessions.Goals as goal

pub returns-in_err-push_closing_line : goal.returns-in_err-push_closing_line
returns-in_err-push_closing_line g c =
    page-stopped (c.args.page.now ++ closing_lines c.args.sessions.now.entries) _ c.from_residual.result Memory
    c.from_residual.ensures.1 (Printed-prefix _ _ c.loop-number.page _ _ c.loop-number.invariant.printed) tt
    c.loop-number.invariant.counted

pub returns-in_err-print_full : goal.returns-in_err-print_full
returns-in_err-print_full g c =
    let line = closing_line c.in-Some.number.now c.in-Some.session.now in
    let left = ap closing_lines (rest_more deref_pair c.loop-number.number-iterator c.next.new.self c.next.result (
      c.in-Some.number,
      c.in-Some.session,
    ) c.in-Some.is c.next.ensures.steps) in
    let full = c.in_err-print_full.ensures in
    page-stopped (c.args.page.now ++ closing_lines c.args.sessions.now.entries) _
    c.from_residual-in_err-print_full.result Outside c.from_residual-in_err-print_full.ensures.1
    (Printed-prefix_of_page _ _ _ c.push_closing_line.new.page _ _
    (Printed-more _ _ c.loop-number.page line (closing_lines c.next.new.self) _ c.push_closing_line.new.page
    c.in_ok-push_closing_line.ensures (Printed-rest _ _ c.loop-number.page _ _ _ left c.loop-number.invariant.printed))
    full.err) (omega (arith, c.loop-number.invariant.counted, full.failed))
    (omega (arith, c.loop-number.invariant.counted, full.counted))

pub loop-number-preserved : goal.loop-number-preserved
loop-number-preserved g c =
    let line = closing_line c.in-Some.number.now c.in-Some.session.now in
    let left = ap closing_lines (rest_more deref_pair c.loop-number.number-iterator c.next.new.self c.next.result (
      c.in-Some.number,
      c.in-Some.session,
    ) c.in-Some.is c.next.ensures.steps) in record {
      printed = Printed-written _ _ _ c.push_closing_line.new.page c.print_full.new.page _ _
          (Printed-more _ _ c.loop-number.page line (closing_lines c.next.new.self) _ c.push_closing_line.new.page
          c.in_ok-push_closing_line.ensures
          (Printed-rest _ _ c.loop-number.page _ _ _ left c.loop-number.invariant.printed))
          c.in_ok-print_full.ensures.ok;
      counted = omega (arith, c.loop-number.invariant.counted, c.in_ok-print_full.ensures.counted);
    }
