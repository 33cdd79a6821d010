use Rattle.std.proofs.Common.{◌≤◌, Option, sym, subst, ◌∙◌, arith}
use Rattle.std.specs.Option.{IfSome}
use Rattle.skk_text.specs.Text.{byte_len}
use Rattle.skk_calls.specs.Canonical.{line_limit}
use Rattle.skk_calls.specs.Rows.{Row}
use Rattle.learned_store.specs.Reading.{HasOneCand}
use Rattle.learned_store.proofs.PlainRows.{one_cand_line}
use Rattle.learned_store.proofs.plain_row.plain_row.Goals as goal

pub returns-then-branch : goal.returns-then-branch
returns-then-branch c =
    let one = subst (λ (found : Option Row). IfSome found (HasOneCand c.args.part c.args.stamp)) c.in-Some.is
    c.in_ok-row.ensures in
    let fits : byte_len c.args.line.now ≤ line_limit = omega (
      arith,
      c.if-byte_len-gt-LINE_LIMIT.false,
      c.byte_len.ensures,
    ) in
    one_cand_line c.args.part c.args.line.now c.args.stamp c.in-Some.row one
    (sym c.in_ok-is_line_of.ensures ∙ c.if-branch.true) fits
