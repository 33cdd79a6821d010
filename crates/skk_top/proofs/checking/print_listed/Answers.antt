use Rattle.std.proofs.Common.{sym, subst, arith, encode_utf8_all}
use Rattle.std.proofs.lemmas.Str.{encodes-append}
use Rattle.skk_outside.specs.Moved.{moved_sink}
use Rattle.skk_outside.specs.Written.{AppendsPrefix}
use Rattle.skk_top.specs.CheckedFiles.{bad_lines, counts_line, checked}
use Rattle.run_endings.specs.declared.fault.RunFault.TheVariants.{Outside, Memory}
use Rattle.run_endings.specs.PageLaws.{AppendsPrefix-more, Printed-prefix, Printed-prefix_of_page, Printed-whole}
use Rattle.run_endings.specs.PageLaws.{printed-fault}
use Rattle.skk_top.proofs.PrintedChecks.{Printed-longer}
use Rattle.skk_top.proofs.checking.print_listed.Goals as goal

pub returns-in_err-print_bad_lines : goal.returns-in_err-print_bad_lines
returns-in_err-print_bad_lines g c =
    let bad = bad_lines c.args.listed.now.bad in
    let counts = counts_line c.args.listed.now in
    let out = moved_sink g.O.Outside c.args.out.now c.print_bad_lines.new.out in
    printed-fault (checked c.args.listed.now) c.from_residual.result c.in_err-print_bad_lines.field-0.0 out
    c.from_residual.ensures.1
    (subst (AppendsPrefix _ _) (sym (encodes-append bad counts)) (AppendsPrefix-more _ _ (encode_utf8_all bad)
    (encode_utf8_all counts) (rw c.as_slice.ensures at c.in_err-print_bad_lines.ensures.err)))
    c.in_err-print_bad_lines.ensures.stopped c.in_err-print_bad_lines.ensures.counted

pub returns-in_err-push_counts : goal.returns-in_err-push_counts
returns-in_err-push_counts g c =
    let bad = bad_lines c.args.listed.now.bad in
    let counts = counts_line c.args.listed.now in
    let out = moved_sink g.O.Outside c.args.out.now c.print_bad_lines.new.out in
    printed-fault (checked c.args.listed.now) c.from_residual-in_err-push_counts.result Memory out
    c.from_residual-in_err-push_counts.ensures.1
    (subst (AppendsPrefix _ _) (sym (encodes-append bad counts))
    (AppendsPrefix-more _ _ (encode_utf8_all bad) (encode_utf8_all counts)
    (Printed-prefix _ _ c.print_bad_lines.new.page _ _ (rw c.as_slice.ensures at c.in_ok-print_bad_lines.ensures.ok))))
    tt c.in_ok-print_bad_lines.ensures.counted

pub returns-in_err-print_through : goal.returns-in_err-print_through
returns-in_err-print_through g c =
    let bad = bad_lines c.args.listed.now.bad in
    let counts = counts_line c.args.listed.now in
    let out = moved_sink g.O.Outside c.args.out.now c.print_through.new.out in
    printed-fault (checked c.args.listed.now) c.from_residual-in_err-print_through.result Outside out
    c.from_residual-in_err-print_through.ensures.1 (Printed-prefix_of_page _ _ _ c.push_counts.new.page _ _
    (Printed-longer _ _ c.print_bad_lines.new.page bad counts c.push_counts.new.page c.in_ok-push_counts.ensures
    (rw c.as_slice.ensures at c.in_ok-print_bad_lines.ensures.ok)) c.in_err-print_through.ensures.prefix)
    (omega (arith, c.in_ok-print_bad_lines.ensures.counted, c.in_err-print_through.ensures.failed))
    (omega (arith, c.in_ok-print_bad_lines.ensures.counted, c.in_err-print_through.ensures.counted))

pub returns : goal.returns
returns g c =
    let bad = bad_lines c.args.listed.now.bad in
    let counts = counts_line c.args.listed.now in
    record {
      whole = Printed-whole _ _ _ c.push_counts.new.page _
          (Printed-longer _ _ c.print_bad_lines.new.page bad counts c.push_counts.new.page c.in_ok-push_counts.ensures
          (rw c.as_slice.ensures at c.in_ok-print_bad_lines.ensures.ok)) c.in_ok-print_through.ensures.whole;
      prefix = tt;
      stopped = tt;
      counted = omega (arith, c.in_ok-print_bad_lines.ensures.counted, c.in_ok-print_through.ensures.counted);
    }
