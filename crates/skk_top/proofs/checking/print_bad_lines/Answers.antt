use Rattle.std.proofs.Common.{arith}
use Rattle.dict_format.specs.declared.file.BadLine.{BadLine}
use Rattle.dict_format.specs.declared.reason.LineReason.TheVariants.{LongLine}
use Rattle.run_endings.specs.PageLaws.{on_err, Printed-prefix, Printed-prefix_of_page, Printed-written}
use Rattle.skk_top.proofs.PrintedChecks.{printed-bad_line}
use Rattle.skk_top.proofs.checking.print_bad_lines.Goals as goal

-- what stands for the line at a place where there is none
abbrev none : BadLine
none = record { line = 0; reason = LongLine }

pub returns-in_err-push_bad_line-clause-err : goal.returns-in_err-push_bad_line-clause-err
returns-in_err-push_bad_line-clause-err g c =
    on_err c.from_residual.result (Printed-prefix _ _ c.loop-line.page _ _ c.loop-line.invariant.printed)

pub returns-in_err-print_full-clause-err : goal.returns-in_err-print_full-clause-err
returns-in_err-print_full-clause-err g c =
    on_err c.from_residual-in_err-print_full.result
    (Printed-prefix_of_page _ _ _ c.push_bad_line.new.page _ _
    (printed-bad_line c.args.bad.now c.loop-line.line-index none _ _ c.loop-line.page c.push_bad_line.new.page _
    c.loop-line-test.true c.in_ok-push_bad_line.ensures c.loop-line.invariant.printed)
    c.in_err-print_full.ensures.err)

pub loop-line-preserved : goal.loop-line-preserved
loop-line-preserved g c = record {
  printed = Printed-written _ _ _ c.push_bad_line.new.page c.print_full.new.page _ _
      (printed-bad_line c.args.bad.now c.loop-line.line-index none _ _ c.loop-line.page c.push_bad_line.new.page _
      c.loop-line-test.true c.in_ok-push_bad_line.ensures c.loop-line.invariant.printed)
      c.in_ok-print_full.ensures.ok;
  counted = omega (arith, c.loop-line.invariant.counted, c.in_ok-print_full.ensures.counted);
}
